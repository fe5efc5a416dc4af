use Rattle.tc_model.specs.Run.{IsNext}
use Rattle.tc_model.specs.Typed.{IsTypedCall}
use Rattle.tc_centre.specs.Centre.{Centre}
use Rattle.tc_calls.specs.Numbers.{AreLast}
use Rattle.tc_centre.specs.declared.founding.Founding.{Founding}
use Rattle.tc_calls.proofs.Numbered.{turn-numbers}
use Rattle.std.proofs.Common.{◌+◌, ◌∙◌, All, length, take, drop, sym, ap, subst}
use Rattle.tc_bag.specs.Stock.{Stock}
use Rattle.tc_pending.specs.Waiting.{Waiting}
use Rattle.tc_model.specs.Entries.{weight}
use Rattle.tc_model.proofs.Runs.{IsRun-first}
use Rattle.tc_centre.specs.Held.{origin_of}
use Rattle.tc_calls.specs.Places.{lists_of, ArePlaces, IsCallAt, IsGave, IsSomeRun}
use Rattle.tc_centre.proofs.Growing.{grown-before, grown-answers, grown-call, weight-grown, slice-whole}
use Rattle.tc_centre.proofs.Lent.{sound-lent, centre-lent}
use Rattle.tc_centre.proofs.Turned.{serves-held, same-rest}
use Rattle.tc_centre.proofs.centre.Core.turn.Goals as goal

pub note_turn-requires-clause-run : goal.note_turn-requires-clause-run
note_turn-requires-clause-run c =
    subst IsSomeRun (sym c.deref-in-Ok.ensures.value) (
      origin_of c.serve.new.held.founding,
      IsRun-first (origin_of c.serve.new.held.founding) c.serve.new.held.history.items c.in-Ok.ensures.served.rest.holds.run,
    )

pub note_turn-requires-clause-answers : goal.note_turn-requires-clause-answers
note_turn-requires-clause-answers c =
    let old = c.deref_mut-held.result.now in
    subst (λ es. All IsGave (drop (c.len-before.result + 1) es)) (sym c.deref-in-Ok.ensures.value)
    (grown-answers c.args.id c.args.op old.history.items c.serve.new.held.history.items c.len-before.result
    (c.len-before.ensures ∙ old.history.ok.0) c.in-Ok.ensures.served.grown)

pub note_turn-requires-clause-called : goal.note_turn-requires-clause-called
note_turn-requires-clause-called c =
    let old = c.deref_mut-held.result.now in
    subst (λ es. IsCallAt es c.len-before.result c.args.id) (sym c.deref-in-Ok.ensures.value)
    (grown-call c.args.id c.args.op old.history.items c.serve.new.held.history.items c.len-before.result
    (c.len-before.ensures ∙ old.history.ok.0) c.in-Ok.ensures.served.grown)

pub note_turn-requires-clause-places : goal.note_turn-requires-clause-places
note_turn-requires-clause-places c =
    let old = c.deref_mut-held.result.now in
    let sound = sound-lent c.self.inside old c.deref_mut-held.ensures.value c.self.invariant in
    subst (ArePlaces (lists_of c.make_room.new.places.items))
    (sym (ap (take c.len-before.result) c.deref-in-Ok.ensures.value
    ∙ grown-before c.args.id c.args.op old.history.items c.serve.new.held.history.items c.len-before.result
    (c.len-before.ensures ∙ old.history.ok.0) c.in-Ok.ensures.served.grown))
    (c.make_room.ensures.kept old.history.items sound.places)

-- where there was no room nothing else has changed
pub invariant_of-self-then-is_err : goal.invariant_of-self-then-is_err
invariant_of-self-then-is_err c =
    let old = c.deref_mut-held.result.now in
    let sound = sound-lent c.self.inside old c.deref_mut-held.ensures.value c.self.invariant in
    record {
      rest = sound.rest;
      weight = sound.weight;
      places = c.make_room.ensures.kept old.history.items sound.places;
      lists = c.make_room.ensures.agents ∙ sound.lists;
      agents = sound.agents;
      numbers = sound.numbers;
      typed = sound.typed;
      bag_unmarked = sound.bag_unmarked;
      pending_unmarked = sound.pending_unmarked;
    }

pub invariant_of-self-in-Err : goal.invariant_of-self-in-Err
invariant_of-self-in-Err c =
    let old = c.deref_mut-held.result.now in
    let sound = sound-lent c.self.inside old c.deref_mut-held.ensures.value c.self.invariant in
    let told = c.in-Err.ensures.same in
    record {
      rest = same-rest old c.serve.new.held told sound.rest;
      weight = sound.weight ∙ ap weight (sym told.history);
      places =
          subst (ArePlaces (lists_of c.make_room.new.places.items)) (sym told.history)
          (c.make_room.ensures.kept old.history.items sound.places);
      lists = c.make_room.ensures.agents ∙ sound.lists
          ∙ ap (λ (f : Founding). length f.agents.items) (sym told.founding);
      agents = sound.agents ∙ ap (λ (f : Founding). length f.agents.items) (sym told.founding);
      numbers = subst (AreLast c.self.inside.numbers.items) (sym told.history) sound.numbers;
      typed = subst (All IsTypedCall) (sym told.history) sound.typed;
      bag_unmarked = ap (λ (b : Stock). b.saved) told.bag ∙ sound.bag_unmarked;
      pending_unmarked = ap (λ (w : Waiting). w.saved) told.pending ∙ sound.pending_unmarked;
    }

pub invariant_of-self-in-Ok : goal.invariant_of-self-in-Ok
invariant_of-self-in-Ok c =
    let old = c.deref_mut-held.result.now in
    let sound = sound-lent c.self.inside old c.deref_mut-held.ensures.value c.self.invariant in
    let view = centre-lent c.self.inside old c.args.self.now c.deref_mut-held.ensures.value c.self.view_is in
    let told = c.in-Ok.ensures.served in
    let next : IsNext (origin_of old.founding) old.history.items c.args.id =
    subst (λ (k : Centre). IsNext k.origin k.history c.args.id) (sym view) c.requires in
    record {
      rest = told.rest;
      weight = weight-grown old.history.items c.serve.new.held.history.items c.len-before.result
          c.self.inside.weight c.weigh.result
          (grown-before c.args.id c.args.op old.history.items c.serve.new.held.history.items c.len-before.result
          (c.len-before.ensures ∙ old.history.ok.0) told.grown)
          sound.weight
          (c.weigh.ensures ∙ ap weight (slice-whole c.serve.new.held.history.items c.deref.result.now c.len-before.result c.deref.ensures.value));
      places = subst (ArePlaces (lists_of c.note_turn.new.places.items)) c.deref-in-Ok.ensures.value c.note_turn.ensures.places;
      lists = c.note_turn.ensures.agents ∙ c.make_room.ensures.agents ∙ sound.lists
          ∙ ap (λ (f : Founding). length f.agents.items) (sym told.kept.founding);
      agents = c.note_number.ensures.agents ∙ sound.agents
          ∙ ap (λ (f : Founding). length f.agents.items) (sym told.kept.founding);
      numbers = subst (AreLast c.note_number.new.numbers.items) (sym told.grown.history)
          (turn-numbers old.history.items c.args.id c.self.inside.numbers.items
          c.note_number.new.numbers.items next.number c.note_number.ensures.noted sound.numbers c.args.op
          told.grown.result told.grown.items told.grown.gaves told.grown.answers);
      typed = told.typed sound.typed;
      bag_unmarked = told.kept.bag ∙ sound.bag_unmarked;
      pending_unmarked = told.kept.pending ∙ sound.pending_unmarked;
    }

pub returns-in-Ok-clause-served : goal.returns-in-Ok-clause-served
returns-in-Ok-clause-served c =
    let old = c.deref_mut-held.result.now in
    let view = centre-lent c.self.inside old c.args.self.now c.deref_mut-held.ensures.value c.self.view_is in
    serves-held old c.serve.new.held c.args.self.now c.args.id c.args.op c.in-Ok.answer view
    c.in-Ok.ensures.served.kept c.in-Ok.ensures.served.grown c.in-Ok.ensures.served.rest c.in-Ok.ensures.served.answer
