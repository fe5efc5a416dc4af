use Rattle.std.proofs.Common.{◌≡◌, ◌+◌, ◌<◌, drop}
use Rattle.tc_term.specs.Tree.{nodes}
use Rattle.tc_term.specs.TreeView.{tree_of}
use Rattle.tc_term.proofs.Sizes.{nodes_in}
use Rattle.bench_read.proofs.count.+nodes.Given as goal

abbrev pub decreases-nodes : goal.decreases-nodes
decreases-nodes l = nodes (tree_of l.term.now)

abbrev pub invariant-loop-arg : goal.invariant-loop-arg
invariant-loop-arg l = (0 < l.all) × (l.all + nodes_in (drop l.arg-index l.arg-items) ≡ 1 + nodes_in l.arg-items)
