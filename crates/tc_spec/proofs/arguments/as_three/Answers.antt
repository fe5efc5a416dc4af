use Rattle.std.proofs.Common.{ap, sym, ◌∙◌, rules}
use Rattle.tc_term.specs.Tree.{Compound}
use Rattle.tc_term.specs.TreeView.{tree_of}
use Rattle.tc_spec.proofs.Pairs.{no_three_args}
use Rattle.tc_spec.proofs.arguments.as_three.Goals as goal

pub returns-in_default-items-clause-none : goal.returns-in_default-items-clause-none
returns-in_default-items-clause-none c s u v three =
    no_three_args c.in-Comp.own c.args.name.now c.items.result.now (tree_of c.args.t.now) c.items.ensures.some
    (ap tree_of c.in-Comp.is ∙ ap (λ ts. Compound c.in-Comp.own ts) (sym c.items.ensures.trees)) (search rules) s u v three
