use Rattle.std.proofs.Common.{ap, length, refl, subst, sym, ◌∙◌}
use Rattle.tc_model.specs.Replies.{reply_in}
use Rattle.tc_centre.specs.Centre.{Centre}
use Rattle.tc_centre.specs.Held.{origin_of}
use Rattle.tc_model.specs.declared.entries.Entry.TheVariants.{Looked}
use Rattle.tc_centre.proofs.Typed.{typed-push}
use Rattle.tc_calls.proofs.Numbered.{look-numbers}
use Rattle.tc_centre.proofs.Lent.{sound-lent, centre-lent}
use Rattle.tc_centre.proofs.Turned.{tells, look-settled, look-weight, look-places}
use Rattle.tc_model.specs.Calls.{call_of}
use Rattle.tc_model.specs.Run.{IsNext, HasCall}
use Rattle.tc_calls.specs.Numbers.{AreLast}
use Rattle.tc_calls.specs.Places.{lists_of}
use Rattle.tc_centre.proofs.centre.Core.poll.Goals as goal

has_call : (c : goal.After-note_number) → HasCall (call_of c.args.id.agent c.args.asked) c.deref_mut-held.result.now.history.items
has_call c =
    subst (HasCall (call_of c.args.id.agent c.args.asked)) c.deref.ensures.value (c.if-not-has_call.ensures.0 refl)

next : (c : goal.After-note_number) → IsNext (origin_of c.deref_mut-held.result.now.founding) c.deref_mut-held.result.now.history.items c.args.id
next c =
    let old = c.deref_mut-held.result.now in
    let view = centre-lent c.self.inside old c.args.self.now c.deref_mut-held.ensures.value c.self.view_is in
    subst (λ (k : Centre). IsNext k.origin k.history c.args.id) (sym view) c.requires

pub invariant_of-self-in-Ok : goal.invariant_of-self-in-Ok
invariant_of-self-in-Ok c =
    let old = c.deref_mut-held.result.now in
    let sound = sound-lent c.self.inside old c.deref_mut-held.ensures.value c.self.invariant in
    let view = centre-lent c.self.inside old c.args.self.now c.deref_mut-held.ensures.value c.self.view_is in
    record {
      rest = look-settled old.founding old.history.items c.look_up.new.history.items
          old.spec old.bag.now old.bag.next old.pending.now c.args.self.now c.args.id view
          c.args.asked (length c.list.result.now) c.self.inside.weight sound.rest c.requires
          (has_call c) sound.weight (ap length c.list.ensures)
          c.if-is_full.ensures.1 c.in-Ok.ensures.appended;
      weight = look-weight old.founding old.history.items c.look_up.new.history.items
          old.spec old.bag.now old.bag.next old.pending.now c.args.self.now c.args.id view
          c.args.asked c.self.inside.weight sound.weight c.in-Ok.ensures.appended;
      places = look-places old.founding old.history.items c.look_up.new.history.items
          old.spec old.bag.now old.bag.next old.pending.now c.args.self.now c.args.id view
          c.args.asked (lists_of c.self.inside.places.items) c.requires sound.places c.in-Ok.ensures.appended;
      lists = sound.lists;
      agents = c.note_number.ensures.agents ∙ sound.agents;
      numbers = subst (AreLast c.note_number.new.numbers.items) (sym c.in-Ok.ensures.appended)
          (look-numbers old.history.items c.args.id c.self.inside.numbers.items
          c.note_number.new.numbers.items (next c).number c.note_number.ensures.noted sound.numbers c.args.asked
          (reply_in old.history.items (call_of c.args.id.agent c.args.asked)));
      typed = typed-push old.history.items c.look_up.new.history.items
          (Looked c.args.id c.args.asked (reply_in old.history.items (call_of c.args.id.agent c.args.asked)))
          c.in-Ok.ensures.appended c.typed_id.ensures sound.typed;
      bag_unmarked = sound.bag_unmarked;
      pending_unmarked = sound.pending_unmarked;
    }

pub returns-in-Ok-clause-told : goal.returns-in-Ok-clause-told
returns-in-Ok-clause-told c =
    let old = c.deref_mut-held.result.now in
    let view = centre-lent c.self.inside old c.args.self.now c.deref_mut-held.ensures.value c.self.view_is in
    tells old.founding old.history.items c.look_up.new.history.items
    old.spec old.bag.now old.bag.next old.pending.now c.args.self.now c.args.id view
    c.args.asked c.in-Ok.poll (has_call c) c.in-Ok.ensures.appended
    (invariant_of-self-in-Ok c).rest.holds.run c.in-Ok.ensures.poll
