use Rattle.std.proofs.Common.{◌≤◌, ℕ, None, ap, arith, get_or, map, sym, ◌∙◌, subst}
use Rattle.std.proofs.lemmas.List.{take_all}
use Rattle.tc_lists.proofs.Options.{IfNone-at, IfSome-at}
use Rattle.tc_term.specs.Equations.{HasValue}
use Rattle.tc_term.specs.Tree.{Tree, depth, depth_of_all}
use Rattle.tc_term.specs.TreeView.{tree_of}
use Rattle.tc_term.specs.Variables.{raised, var_bound, var_bound_of_all}
use Rattle.tc_term.specs.declared.terms.Term.{Term}
use Rattle.tc_desk.specs.Asks.{value_or_variable, with_values}
use Rattle.tc_asks.specs.Bindings.{all_with_values}
use Rattle.tc_asks.proofs.Replaced.{kept, replaced, trees_of-replaced, var_bound-argument}
use Rattle.tc_asks.proofs.filling.+filled.Goals as goal

pub filled-returns-in-Some : goal.filled-returns-in-Some
filled-returns-in-Some t c values exact =
    let vars = c.args.store.now.vars in
    let es = c.args.store.now.pairs in
    let value =
    IfSome-at (HasValue vars es (raised 0 (tree_of c.args.t.now))) c.in_ok-value-in-Var.field-0 c.in-Some.value c.in-Some.is
    c.in_ok-value-in-Var.ensures.found in
    c.into_term.ensures.term
    ∙ replaced vars es values c.in-Var.n (tree_of c.args.t.now) c.in-Some.value (ap tree_of c.in-Var.is) c.requires exact value

pub filled-returns-in-None : goal.filled-returns-in-None
filled-returns-in-None t c values exact =
    let vars = c.args.store.now.vars in
    let es = c.args.store.now.pairs in
    let never =
    IfNone-at ((value : Tree) → HasValue vars es (raised 0 (tree_of c.args.t.now)) value → ⊥) c.in_ok-value-in-Var.field-0 c.in-None.is
    c.in_ok-value-in-Var.ensures.none in
    kept vars es values c.in-Var.n (tree_of c.args.t.now) (ap tree_of c.in-Var.is) c.requires exact never

pub filled_args-filled-requires : goal.filled_args-filled-requires
filled_args-filled-requires t c =
    let items = c.items-arg-items.result.now in
    let arg = c.arg-item.result in
    let inside = c.loop-arg-test.true in
    let deep : depth (tree_of arg) ≤ depth_of_all c.args.args.now =
    subst (λ (u : Term). depth (tree_of u) ≤ depth_of_all c.args.args.now) (sym c.arg-item.is) (c.items-arg-items.ensures.depth c.loop-arg.arg-index arg inside) in
    let bound =
    subst (λ (u : Term). var_bound (tree_of u) ≤ var_bound_of_all c.args.args.now) (sym c.arg-item.is)
    (subst (λ ts. var_bound (tree_of (get_or items c.loop-arg.arg-index arg)) ≤ var_bound_of_all ts) c.items-arg-items.ensures.trees
    (var_bound-argument items c.loop-arg.arg-index arg inside)) in
    (omega (arith, deep), omega (arith, bound, c.requires))

pub filled_args-new-requires : goal.filled_args-new-requires
filled_args-new-requires t c =
    omega (arith, c.loop-arg.invariant.many, c.loop-arg-test.false, c.items-arg-items.ensures.some)

pub filled_args-returns : goal.filled_args-returns
filled_args-returns t c values exact =
    let items = c.items-arg-items.result.now in
    let f : ℕ → Tree = λ n. value_or_variable n (get_or values n None) in
    let whole = take_all c.loop-arg.arg-index items (omega (arith, c.loop-arg-test.false)) in
    c.in_ok-args.ensures
    ∙ trees_of-replaced f items c.loop-arg.terms.items
    (c.loop-arg.invariant.replaced values exact ∙ ap (map (λ t. with_values values (tree_of t))) whole)
    ∙ ap (all_with_values values) c.items-arg-items.ensures.trees
