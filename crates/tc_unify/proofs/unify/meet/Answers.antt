use Rattle.std.proofs.Common.{inl, inr, ◌≡◌, ℕ, ◌++◌, ◌∷◌, [], List, max, min, sym, ap, ap₂, ◌∙◌, subst, append_assoc, append-nil}
use Rattle.std.proofs.lemmas.List.Elements.{All-append}
use Rattle.tc_unify.specs.Meeting.{Leads}
use Rattle.tc_unify.specs.Arena.{IsNodeOf, AreNodesOf}
use Rattle.tc_unify.proofs.Meetings.{IsLinked-same, waiting_nodes, from_place, from_free, from_term, to_term}
use Rattle.tc_unify.proofs.Meetings.{leads_same, linked_after, leads_joined, variable_joins, name_clashes, fails_clash}
use Rattle.tc_unify.proofs.unify.meet.Goals as goal

high : {r left right x y : ℕ} → r ≡ max left right → left ≡ x → right ≡ y → r ≡ max x y
high e f g = e ∙ ap₂ max f g

low : {r left right x y : ℕ} → r ≡ min left right → left ≡ x → right ≡ y → r ≡ min x y
low e f g = e ∙ ap₂ min f g

pushed_twice : (ws us vs : List (ℕ × ℕ)) (p q : ℕ × ℕ) → us ≡ ws ++ p ∷ []
    → vs ≡ us ++ q ∷ [] → vs ≡ ws ++ (p ∷ q ∷ [])
pushed_twice ws us vs p q e f = f ∙ ap (λ xs. xs ++ q ∷ []) e ∙ append_assoc ws (p ∷ []) (q ∷ [])

pub returns-then-from-to-clause-met : goal.returns-then-from-to-clause-met
returns-then-from-to-clause-met c = λ met.
    let up = high c.max-from.ensures c.end-left.ensures c.end-right.ensures in
    let down = low c.min-to.ensures c.end-left.ensures c.end-right.ensures in
    leads_same _ _ _ _ _ _ c.requires.linked c.requires.nodes up down c.if-from-to.true

pub returns-then-from-to-clause-nodes : goal.returns-then-from-to-clause-nodes
returns-then-from-to-clause-nodes c =
    let up = high c.max-from.ensures c.end-left.ensures c.end-right.ensures in
    let down = low c.min-to.ensures c.end-left.ensures c.end-right.ensures in
    waiting_nodes _ _ _ _ _ _ c.requires.linked c.requires.nodes up down

pub join-requires-clause-place : goal.join-requires-clause-place
join-requires-clause-place c =
    let up = high c.max-from.ensures c.end-left.ensures c.end-right.ensures in
    let down = low c.min-to.ensures c.end-left.ensures c.end-right.ensures in
    from_place _ _ _ _ _ _ c.requires.linked c.requires.nodes up down (inr c.if-from-ge-FIRST_VARIABLE.true)

pub join-requires-clause-free : goal.join-requires-clause-free
join-requires-clause-free c =
    let up = high c.max-from.ensures c.end-left.ensures c.end-right.ensures in
    let down = low c.min-to.ensures c.end-left.ensures c.end-right.ensures in
    from_free _ _ _ _ _ _ c.requires.linked c.requires.nodes up down

pub join-requires-in-Same-clause-place : goal.join-requires-in-Same-clause-place
join-requires-in-Same-clause-place c =
    let up = high c.max-from.ensures c.end-left.ensures c.end-right.ensures in
    let down = low c.min-to.ensures c.end-left.ensures c.end-right.ensures in
    from_place _ _ _ _ _ _ c.requires.linked c.requires.nodes up down (inl c.if-from-ge-FIRST_NAME.false)

pub join-requires-in-Same-clause-free : goal.join-requires-in-Same-clause-free
join-requires-in-Same-clause-free c =
    let up = high c.max-from.ensures c.end-left.ensures c.end-right.ensures in
    let down = low c.min-to.ensures c.end-left.ensures c.end-right.ensures in
    from_free _ _ _ _ _ _ c.requires.linked c.requires.nodes up down

pub join-requires-in-Pairs-clause-place : goal.join-requires-in-Pairs-clause-place
join-requires-in-Pairs-clause-place c =
    let up = high c.max-from.ensures c.end-left.ensures c.end-right.ensures in
    let down = low c.min-to.ensures c.end-left.ensures c.end-right.ensures in
    from_place _ _ _ _ _ _ c.requires.linked c.requires.nodes up down (inl c.if-from-ge-FIRST_NAME.false)

pub join-requires-in-Pairs-clause-free : goal.join-requires-in-Pairs-clause-free
join-requires-in-Pairs-clause-free c =
    let up = high c.max-from.ensures c.end-left.ensures c.end-right.ensures in
    let down = low c.min-to.ensures c.end-left.ensures c.end-right.ensures in
    from_free _ _ _ _ _ _ c.requires.linked c.requires.nodes up down

pub returns-then-from-ge-FIRST_VARIABLE-clause-met : goal.returns-then-from-ge-FIRST_VARIABLE-clause-met
returns-then-from-ge-FIRST_VARIABLE-clause-met c = λ met.
    let up = high c.max-from.ensures c.end-left.ensures c.end-right.ensures in
    let down = low c.min-to.ensures c.end-left.ensures c.end-right.ensures in
    subst (Leads c.args.arena.now c.args.links.now (c.args.waiting.now.items ++ c.args.pair ∷ []) c.join.new.self)
    (append-nil c.args.waiting.now.items)
    (leads_joined _ _ _ _ _ _ c.requires.linked c.requires.nodes up down
    c.join.new.self [] c.in_ok-join.ensures.link
    (variable_joins _ _ _ _ _ _ c.requires.linked c.requires.nodes up down c.if-from-ge-FIRST_VARIABLE.true))

pub returns-then-from-ge-FIRST_VARIABLE-clause-nodes : goal.returns-then-from-ge-FIRST_VARIABLE-clause-nodes
returns-then-from-ge-FIRST_VARIABLE-clause-nodes c =
    let up = high c.max-from.ensures c.end-left.ensures c.end-right.ensures in
    let down = low c.min-to.ensures c.end-left.ensures c.end-right.ensures in
    waiting_nodes _ _ _ _ _ _ c.requires.linked c.requires.nodes up down

pub returns-then-from-ge-FIRST_VARIABLE-clause-linked : goal.returns-then-from-ge-FIRST_VARIABLE-clause-linked
returns-then-from-ge-FIRST_VARIABLE-clause-linked c =
    let up = high c.max-from.ensures c.end-left.ensures c.end-right.ensures in
    let down = low c.min-to.ensures c.end-left.ensures c.end-right.ensures in
    let joined = c.in_ok-join.ensures in
    linked_after _ _ _ _ _ _ c.requires.linked c.requires.nodes up down
    c.join.new.self (inr c.if-from-ge-FIRST_VARIABLE.true) c.if-from-to.false
    joined.link joined.extends.terms joined.extends.variables joined.trail

pub heads-requires-clause-left : goal.heads-requires-clause-left
heads-requires-clause-left c =
    let up = high c.max-from.ensures c.end-left.ensures c.end-right.ensures in
    let down = low c.min-to.ensures c.end-left.ensures c.end-right.ensures in
    from_term _ _ _ _ _ _ c.requires.linked c.requires.nodes up down c.if-from-ge-FIRST_NAME.false

pub heads-requires-clause-right : goal.heads-requires-clause-right
heads-requires-clause-right c =
    let up = high c.max-from.ensures c.end-left.ensures c.end-right.ensures in
    let down = low c.min-to.ensures c.end-left.ensures c.end-right.ensures in
    to_term _ _ _ _ _ _ c.requires.linked c.requires.nodes up down c.if-from-ge-FIRST_NAME.false

pub returns-in-Clash-clause-failed : goal.returns-in-Clash-clause-failed
returns-in-Clash-clause-failed c = λ failed.
    let up = high c.max-from.ensures c.end-left.ensures c.end-right.ensures in
    let down = low c.min-to.ensures c.end-left.ensures c.end-right.ensures in
    fails_clash _ _ _ _ _ _ c.requires.linked c.requires.nodes up down c.in-Clash.ensures

pub returns-in-Clash-clause-nodes : goal.returns-in-Clash-clause-nodes
returns-in-Clash-clause-nodes c =
    let up = high c.max-from.ensures c.end-left.ensures c.end-right.ensures in
    let down = low c.min-to.ensures c.end-left.ensures c.end-right.ensures in
    waiting_nodes _ _ _ _ _ _ c.requires.linked c.requires.nodes up down

pub returns-in_ok-join-in-Same-clause-met : goal.returns-in_ok-join-in-Same-clause-met
returns-in_ok-join-in-Same-clause-met c = λ met.
    let up = high c.max-from.ensures c.end-left.ensures c.end-right.ensures in
    let down = low c.min-to.ensures c.end-left.ensures c.end-right.ensures in
    subst (Leads c.args.arena.now c.args.links.now (c.args.waiting.now.items ++ c.args.pair ∷ []) c.join-in-Same.new.self)
    (append-nil c.args.waiting.now.items)
    (leads_joined _ _ _ _ _ _ c.requires.linked c.requires.nodes up down
    c.join-in-Same.new.self [] c.in_ok-join-in-Same.ensures.link c.in-Same.ensures)

pub returns-in_ok-join-in-Same-clause-nodes : goal.returns-in_ok-join-in-Same-clause-nodes
returns-in_ok-join-in-Same-clause-nodes c =
    let up = high c.max-from.ensures c.end-left.ensures c.end-right.ensures in
    let down = low c.min-to.ensures c.end-left.ensures c.end-right.ensures in
    waiting_nodes _ _ _ _ _ _ c.requires.linked c.requires.nodes up down

pub returns-in_ok-join-in-Same-clause-linked : goal.returns-in_ok-join-in-Same-clause-linked
returns-in_ok-join-in-Same-clause-linked c =
    let up = high c.max-from.ensures c.end-left.ensures c.end-right.ensures in
    let down = low c.min-to.ensures c.end-left.ensures c.end-right.ensures in
    let joined = c.in_ok-join-in-Same.ensures in
    linked_after _ _ _ _ _ _ c.requires.linked c.requires.nodes up down
    c.join-in-Same.new.self (inl c.if-from-ge-FIRST_NAME.false) c.if-from-to.false
    joined.link joined.extends.terms joined.extends.variables joined.trail

pub returns-in_ok-join-in-Pairs-clause-met : goal.returns-in_ok-join-in-Pairs-clause-met
returns-in_ok-join-in-Pairs-clause-met c = λ met.
    let up = high c.max-from.ensures c.end-left.ensures c.end-right.ensures in
    let down = low c.min-to.ensures c.end-left.ensures c.end-right.ensures in
    subst (Leads c.args.arena.now c.args.links.now (c.args.waiting.now.items ++ c.args.pair ∷ []) c.join-in-Pairs.new.self)
    (sym (pushed_twice c.args.waiting.now.items _ _ c.in-Pairs.arguments c.in-Pairs.heads
    c.in_ok-push-in-Pairs.ensures.items c.in_ok-push-in-Pairs-2.ensures.items))
    (leads_joined _ _ _ _ _ _ c.requires.linked c.requires.nodes up down
    c.join-in-Pairs.new.self (c.in-Pairs.arguments ∷ c.in-Pairs.heads ∷ [])
    c.in_ok-join-in-Pairs.ensures.link c.in-Pairs.ensures.0)

pub returns-in_ok-join-in-Pairs-clause-nodes : goal.returns-in_ok-join-in-Pairs-clause-nodes
returns-in_ok-join-in-Pairs-clause-nodes c =
    let up = high c.max-from.ensures c.end-left.ensures c.end-right.ensures in
    let down = low c.min-to.ensures c.end-left.ensures c.end-right.ensures in
    subst (AreNodesOf c.args.arena.now)
    (sym (pushed_twice c.args.waiting.now.items _ _ c.in-Pairs.arguments c.in-Pairs.heads
    c.in_ok-push-in-Pairs.ensures.items c.in_ok-push-in-Pairs-2.ensures.items))
    (All-append (λ p. IsNodeOf c.args.arena.now p.0 × IsNodeOf c.args.arena.now p.1)
    c.args.waiting.now.items (c.in-Pairs.arguments ∷ c.in-Pairs.heads ∷ [])
    (waiting_nodes _ _ _ _ _ _ c.requires.linked c.requires.nodes up down) c.in-Pairs.ensures.1)

pub returns-in_ok-join-in-Pairs-clause-linked : goal.returns-in_ok-join-in-Pairs-clause-linked
returns-in_ok-join-in-Pairs-clause-linked c =
    let up = high c.max-from.ensures c.end-left.ensures c.end-right.ensures in
    let down = low c.min-to.ensures c.end-left.ensures c.end-right.ensures in
    let joined = c.in_ok-join-in-Pairs.ensures in
    linked_after _ _ _ _ _ _ c.requires.linked c.requires.nodes up down
    c.join-in-Pairs.new.self (inl c.if-from-ge-FIRST_NAME.false) c.if-from-to.false
    joined.link joined.extends.terms joined.extends.variables joined.trail

pub returns-in_err-join-clause-linked : goal.returns-in_err-join-clause-linked
returns-in_err-join-clause-linked c =
    let same = c.in_err-join.ensures in
    let extends = c.join.ensures.extends in
    IsLinked-same _ _ _ c.requires.linked same.same extends.terms extends.variables same.same_trail

pub returns-in_err-join-in-Same-clause-linked : goal.returns-in_err-join-in-Same-clause-linked
returns-in_err-join-in-Same-clause-linked c =
    let same = c.in_err-join-in-Same.ensures in
    let extends = c.join-in-Same.ensures.extends in
    IsLinked-same _ _ _ c.requires.linked same.same extends.terms extends.variables same.same_trail

pub returns-in_err-join-in-Pairs-clause-linked : goal.returns-in_err-join-in-Pairs-clause-linked
returns-in_err-join-in-Pairs-clause-linked c =
    let same = c.in_err-join-in-Pairs.ensures in
    let extends = c.join-in-Pairs.ensures.extends in
    IsLinked-same _ _ _ c.requires.linked same.same extends.terms extends.variables same.same_trail

pub returns-then-from-ge-FIRST_NAME-clause-failed : goal.returns-then-from-ge-FIRST_NAME-clause-failed
returns-then-from-ge-FIRST_NAME-clause-failed c = λ failed.
    let up = high c.max-from.ensures c.end-left.ensures c.end-right.ensures in
    let down = low c.min-to.ensures c.end-left.ensures c.end-right.ensures in
    fails_clash _ _ _ _ _ _ c.requires.linked c.requires.nodes up down
    (name_clashes _ _ _ _ _ _ c.requires.linked c.requires.nodes up down
    c.if-from-ge-FIRST_NAME.true c.if-from-ge-FIRST_VARIABLE.false c.if-from-to.false)

pub returns-then-from-ge-FIRST_NAME-clause-nodes : goal.returns-then-from-ge-FIRST_NAME-clause-nodes
returns-then-from-ge-FIRST_NAME-clause-nodes c =
    let up = high c.max-from.ensures c.end-left.ensures c.end-right.ensures in
    let down = low c.min-to.ensures c.end-left.ensures c.end-right.ensures in
    waiting_nodes _ _ _ _ _ _ c.requires.linked c.requires.nodes up down

pub join-requires-in-Last-clause-place : goal.join-requires-in-Last-clause-place
join-requires-in-Last-clause-place c =
    let up = high c.max-from.ensures c.end-left.ensures c.end-right.ensures in
    let down = low c.min-to.ensures c.end-left.ensures c.end-right.ensures in
    from_place _ _ _ _ _ _ c.requires.linked c.requires.nodes up down (inl c.if-from-ge-FIRST_NAME.false)

pub join-requires-in-Last-clause-free : goal.join-requires-in-Last-clause-free
join-requires-in-Last-clause-free c =
    let up = high c.max-from.ensures c.end-left.ensures c.end-right.ensures in
    let down = low c.min-to.ensures c.end-left.ensures c.end-right.ensures in
    from_free _ _ _ _ _ _ c.requires.linked c.requires.nodes up down

pub returns-in_ok-join-in-Last-clause-linked : goal.returns-in_ok-join-in-Last-clause-linked
returns-in_ok-join-in-Last-clause-linked c =
    let up = high c.max-from.ensures c.end-left.ensures c.end-right.ensures in
    let down = low c.min-to.ensures c.end-left.ensures c.end-right.ensures in
    let joined = c.in_ok-join-in-Last.ensures in
    linked_after _ _ _ _ _ _ c.requires.linked c.requires.nodes up down
    c.join-in-Last.new.self (inl c.if-from-ge-FIRST_NAME.false) c.if-from-to.false
    joined.link joined.extends.terms joined.extends.variables joined.trail

pub returns-in_err-join-in-Last-clause-linked : goal.returns-in_err-join-in-Last-clause-linked
returns-in_err-join-in-Last-clause-linked c =
    let same = c.in_err-join-in-Last.ensures in
    let extends = c.join-in-Last.ensures.extends in
    IsLinked-same _ _ _ c.requires.linked same.same extends.terms extends.variables same.same_trail

pub returns-in_ok-join-in-Last-clause-met : goal.returns-in_ok-join-in-Last-clause-met
returns-in_ok-join-in-Last-clause-met c = λ met.
    let up = high c.max-from.ensures c.end-left.ensures c.end-right.ensures in
    let down = low c.min-to.ensures c.end-left.ensures c.end-right.ensures in
    subst (Leads c.args.arena.now c.args.links.now (c.args.waiting.now.items ++ c.args.pair ∷ []) c.join-in-Last.new.self)
    (sym c.in_ok-push-in-Last.ensures.items)
    (leads_joined _ _ _ _ _ _ c.requires.linked c.requires.nodes up down
    c.join-in-Last.new.self (c.in-Last.arguments ∷ []) c.in_ok-join-in-Last.ensures.link c.in-Last.ensures.0)

pub returns-in_ok-join-in-Last-clause-nodes : goal.returns-in_ok-join-in-Last-clause-nodes
returns-in_ok-join-in-Last-clause-nodes c =
    let up = high c.max-from.ensures c.end-left.ensures c.end-right.ensures in
    let down = low c.min-to.ensures c.end-left.ensures c.end-right.ensures in
    subst (AreNodesOf c.args.arena.now) (sym c.in_ok-push-in-Last.ensures.items)
    (All-append (λ p. IsNodeOf c.args.arena.now p.0 × IsNodeOf c.args.arena.now p.1)
    c.args.waiting.now.items (c.in-Last.arguments ∷ [])
    (waiting_nodes _ _ _ _ _ _ c.requires.linked c.requires.nodes up down) c.in-Last.ensures.1)
