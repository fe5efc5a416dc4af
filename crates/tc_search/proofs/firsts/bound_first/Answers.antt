use Rattle.std.proofs.Common.{◌∙◌, ap, sym, arith}
use Rattle.tc_term.specs.TreeView.{tree_of}
use Rattle.tc_term.specs.Variables.{var_bound}
use Rattle.tc_term.proofs.Instances.{raised-zero}
use Rattle.tc_bag.specs.Keys.{first_of}
use Rattle.tc_bag.proofs.Agreement.{first_of-read}
use Rattle.tc_search.proofs.Arguments.{argument_fits}
use Rattle.tc_search.proofs.ByFirst.{value-given}
use Rattle.tc_search.proofs.firsts.bound_first.Goals as goal

pub value-requires : goal.value-requires
value-requires c =
    let first = c.index-items-0.result in
    let fits =
    argument_fits c.args.template.now c.in-Comp.field-0 c.in-Comp.args c.items.result.now _ (ap tree_of c.in-Comp.is) c.items.ensures.trees
    c.items.ensures.depth c.requires 0 first c.items.ensures.some c.index-items-0.is in
    omega (arith, fits.1, ap var_bound (raised-zero (tree_of first)))

pub returns : goal.returns
returns c =
    let first = c.index-items-0.result in
    value-given c.args.store.now.vars c.args.store.now.pairs (tree_of c.args.template.now) (tree_of first) c.in-Comp.field-0 c.in-Comp.args
    (ap tree_of c.in-Comp.is)
    (ap tree_of c.index-items-0.is ∙ sym (first_of-read c.items.result.now first c.items.ensures.some) ∙ ap first_of c.items.ensures.trees)
    c.value.result c.value.ensures.found
