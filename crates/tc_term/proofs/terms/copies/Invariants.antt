use Rattle.std.proofs.Common.{◌≡◌, ◌++◌, drop, map}
use Rattle.tc_term.specs.TreeView.{tree_of}
use Rattle.tc_term.proofs.terms.copies.Given as goal

abbrev pub invariant-loop-term : goal.invariant-loop-term
invariant-loop-term l = map tree_of l.terms ≡ map tree_of l.copies.items ++ map tree_of (drop l.term-index l.terms)
