use Rattle.std.proofs.Common.{◌≡◌}
use Rattle.tc_term.specs.Tree.{depth}
use Rattle.tc_term.specs.TreeView.{tree_of}
use Rattle.tc_config.proofs.Cells.{lines_onto}
use Rattle.tc_config.proofs.lines.lines_of.Given as goal

abbrev pub invariant-loop-lines : goal.invariant-loop-lines
invariant-loop-lines l = lines_onto l.lines.items (tree_of l.rest) ≡ tree_of l.fn.list

abbrev pub decreases-loop-lines : goal.decreases-loop-lines
decreases-loop-lines l = depth (tree_of l.rest)
