use Rattle.std.proofs.Common.{◌≡◌, ◌<◌, ◌++◌, ◌∷◌, [], ℕ, ap, sym, subst, length, append-nil, ◌∙◌, arith}
use Rattle.std.specs.List.{All, remove}
use Rattle.tc_pending.specs.Waiting.{Waiting}
use Rattle.std.proofs.lemmas.List.Edits.{length-remove}
use Rattle.std.proofs.lemmas.Option.{slice_get_within}
use Rattle.tc_model.specs.Typed.{IsTypedCall}
use Rattle.tc_model.specs.declared.entries.Entry.TheVariants.{Gave}
use Rattle.tc_centre.specs.Held.{origin_of, IsHeld}
use Rattle.tc_centre.proofs.Typed.{typed-push}
use Rattle.tc_centre.proofs.Answered.{answered}
use Rattle.tc_centre.proofs.serving.answer_one.Goals as goal

-- the requests after a removal, where before it they were as they had been
removed : (old mid new : Waiting) (place : ℕ) → mid ≡ old → new ≡ record mid { now = remove mid.now place }
    → new.now ≡ remove old.now place
removed old mid new place same is =
    ap (λ (w : Waiting). w.now) is ∙ ap (λ (w : Waiting). remove w.now place) same

pub remove-requires : goal.remove-requires
remove-requires g c =
    let requests = c.args.held.now.pending.now in
    subst (λ (w : Waiting). c.args.place < length w.now) (sym c.in_ok-id.ensures.requests)
    (slice_get_within requests c.args.place c.requires.next.request c.requires.next.stands)

pub returns-clause-run : goal.returns-clause-run
returns-clause-run g c =
    let old = c.args.held.now in
    let new = c.answer.new.held in
    let gives = c.in_ok-id.ensures.gives in
    let entry = Gave c.in_ok-id.id c.in_ok-id.outcome c.in_ok-id.items in
    let fewer = c.remove.new.self.now in
    subst (λ f. IsHeld (origin_of f) c.push.new.self.items new.spec new.bag.now new.bag.next fewer)
    (sym c.answer.ensures.keeps.founding)
    (subst (λ cs. IsHeld (origin_of old.founding) c.push.new.self.items cs new.bag.now new.bag.next fewer)
    (sym c.answer.ensures.keeps.spec)
    (answered (origin_of old.founding) old.history.items old.spec old.bag.now old.bag.next old.pending.now c.requires.run
    c.push.new.self.items new.bag.now new.bag.next fewer c.args.place c.args.age gives.request
    c.in_ok-id.id c.in_ok-id.outcome c.in_ok-id.items c.requires.next gives.stands gives.of gives.given gives.state
    (removed c.args.held.now.pending new.pending c.remove.new.self c.args.place c.answer.ensures.requests c.remove.ensures)
    (c.in_ok-push.ensures.items ∙ ap (λ es. es ++ entry ∷ []) c.answer.ensures.keeps.history)
    gives.next))

pub returns-clause-requests : goal.returns-clause-requests
returns-clause-requests g c =
    removed c.args.held.now.pending c.answer.new.held.pending c.remove.new.self c.args.place c.answer.ensures.requests c.remove.ensures

pub returns-clause-fewer : goal.returns-clause-fewer
returns-clause-fewer g c =
    let requests = c.args.held.now.pending.now in
    let inside : c.args.place < length requests =
    slice_get_within requests c.args.place c.requires.next.request c.requires.next.stands in
    let one_less = length-remove requests c.args.place inside in
    let gone = removed c.args.held.now.pending c.answer.new.held.pending c.remove.new.self c.args.place c.answer.ensures.requests c.remove.ensures in
    omega (arith, one_less, ap length gone)

pub returns-clause-typed : goal.returns-clause-typed
returns-clause-typed g c all =
    typed-push c.answer.new.held.history.items c.push.new.self.items (Gave c.in_ok-id.id c.in_ok-id.outcome c.in_ok-id.items)
    c.in_ok-push.ensures.items tt
    (subst (All IsTypedCall) (sym c.answer.ensures.keeps.history) all)

pub returns-in_err-push-clause-keeps : goal.returns-in_err-push-clause-keeps
returns-in_err-push-clause-keeps g c = record {
  founding = c.answer.ensures.keeps.founding;
  bag = c.answer.ensures.keeps.bag;
  pending = ap (λ (w : Waiting). w.saved) c.remove.ensures ∙ c.answer.ensures.keeps.pending;
  longer = record {
    more = [];
    history = c.in_err-push.ensures.items ∙ c.answer.ensures.keeps.history ∙ sym (append-nil c.args.held.now.history.items);
  };
}
