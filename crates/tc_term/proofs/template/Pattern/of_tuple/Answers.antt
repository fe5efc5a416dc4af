use Rattle.std.proofs.Common.{ap, sym, subst, length}
use Rattle.tc_term.proofs.Numbered.{IsPattern-tuple, variables-tuple}
use Rattle.tc_term.specs.Tree.{IsTuple}
use Rattle.tc_term.specs.TreeView.{tree_of}
use Rattle.tc_term.proofs.template.Pattern.of_tuple.Goals as goal

pub invariant_of-result : goal.invariant_of-result
invariant_of-result c =
    let tuple = subst IsTuple (sym c.into_term.ensures.term) c.into_term.ensures.tuple in
    (IsPattern-tuple (tree_of c.into_term.result) tuple, sym (ap length (variables-tuple (tree_of c.into_term.result) tuple)))
