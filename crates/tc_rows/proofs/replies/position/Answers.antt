use Rattle.std.proofs.Common.{None, IfSome, IfNone, ◌≡◌, sym, subst, rules}
use Rattle.std.proofs.lemmas.List.Sorted.{answers_always}
use Rattle.tc_calls.specs.Calls.{place_of, IsAt}
use Rattle.tc_calls.proofs.CallLists.{found, found-none}
use Rattle.tc_rows.proofs.replies.position.Goals as goal

pub returns-clause-found : goal.returns-clause-found
returns-clause-found c =
    let searched = c.binary_search_by_key.ensures in
    subst (λ o. IfSome o (IsAt c.args.calls.now c.args.number)) (sym c.ok.ensures.value)
    (found c.args.calls.now c.args.number c.requires c.binary_search_by_key.result searched.bound
    (searched.position (λ call. call.0) (answers_always _ _ _ (λ f a r g called. search rules))))

pub returns-clause-none : goal.returns-clause-none
returns-clause-none c =
    let searched = c.binary_search_by_key.ensures in
    subst (λ o. IfNone o (place_of c.args.calls.now c.args.number ≡ None)) (sym c.ok.ensures.value)
    (found-none c.args.calls.now c.args.number c.requires c.binary_search_by_key.result searched.bound
    (searched.position (λ call. call.0) (answers_always _ _ _ (λ f a r g called. search rules))))
