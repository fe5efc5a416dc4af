use Rattle.std.proofs.Common.{◌+◌, ◌≤◌, ap, ◌∙◌, sym, subst, All, take, ◌++◌, ◌∷◌, []}
use Rattle.std.proofs.lemmas.List.{take_all, take_more}
use Rattle.std.proofs.lemmas.List.Elements.{All-push}
use Rattle.tc_term.specs.Tree.{Variable}
use Rattle.tc_term.specs.TreeView.{tree_of}
use Rattle.tc_term.specs.Variables.{raised, instances, var_bound, var_bound_of_all}
use Rattle.tc_unify.proofs.Copied.{variables-arguments}
use Rattle.test_term_table.proofs.sample.+is_below.Goals as goal

pub returns-after-loop-arg : goal.returns-after-loop-arg
returns-after-loop-arg t c = λ below.
    let items = c.items-arg-items.result.now in
    let each = subst (All (λ x. var_bound (raised c.args.shift (tree_of x)) ≤ c.args.vars)) (take_all c.loop-arg.arg-index items c.loop-arg-test.false) c.loop-arg.invariant in
    subst (λ n. n ≤ c.args.vars)
    (sym (ap (λ u. var_bound (raised c.args.shift (tree_of u))) c.in-Comp.is ∙ ap (λ ts. var_bound_of_all (instances (λ n. Variable (n + c.args.shift)) ts)) (sym c.items-arg-items.ensures.trees)))
    (variables-arguments c.args.shift items c.args.vars each)

pub loop-arg-preserved : goal.loop-arg-preserved
loop-arg-preserved t c =
    let items = c.items-arg-items.result.now in
    let before = take c.loop-arg.arg-index items in
    let all = All-push (λ x. var_bound (raised c.args.shift (tree_of x)) ≤ c.args.vars) before c.arg-item.result c.loop-arg.invariant (c.is_below.ensures c.if-not-is_below.false) in
    subst (All (λ x. var_bound (raised c.args.shift (tree_of x)) ≤ c.args.vars))
    (sym (take_more items c.loop-arg.arg-index c.arg-item.result c.loop-arg-test.true ∙ ap (λ x. before ++ x ∷ []) (sym c.arg-item.is))) all
