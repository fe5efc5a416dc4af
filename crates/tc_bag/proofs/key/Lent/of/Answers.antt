use Rattle.std.proofs.Common.{◌≡◌, ◌≤◌, ap, sym, subst, ◌∙◌, length, arith}
use Rattle.tc_term.specs.Tree.{nodes, Compound}
use Rattle.tc_term.specs.TreeView.{tree_of}
use Rattle.tc_bag.specs.Keys.{arity, key_of}
use Rattle.tc_bag.specs.declared.key.Key.TheVariants.{Comp}
use Rattle.tc_bag.proofs.Agreement.{arity-trees_of, arity_le-nodes}
use Rattle.tc_bag.proofs.key.Lent.of.Goals as goal

-- the items are the arguments
count : (c : goal.After-items) → arity c.in-Comp.args ≡ length c.items.result.now
count c = ap arity (sym c.items.ensures.trees) ∙ arity-trees_of c.items.result.now c.items.ensures.some

pub overflow_cast-result : goal.overflow_cast-result
overflow_cast-result c =
    let few : nodes (Compound c.in-Comp.name c.in-Comp.args) ≤ 10000 =
    subst (λ t. nodes (tree_of t) ≤ 10000) c.in-Comp.is c.requires.nodes in
    omega (arith, few, count c, arity_le-nodes c.in-Comp.args)

pub returns-in-Comp : goal.returns-in-Comp
returns-in-Comp c = ap (Comp c.in-Comp.name) (sym (count c)) ∙ sym (ap (λ t. key_of (tree_of t)) c.in-Comp.is)
