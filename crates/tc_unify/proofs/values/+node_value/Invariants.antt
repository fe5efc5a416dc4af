use Rattle.std.proofs.Common.{◌<◌, length, reverse, All}
use Rattle.tc_term.specs.Tree.{Atomic}
use Rattle.tc_term.specs.TreeView.{tree_of}
use Rattle.tc_term.specs.Equations.{at}
use Rattle.tc_unify.specs.Nodes.{applied_over, label}
use Rattle.tc_unify.specs.Arena.{IsNodeOf, shape_of}
use Rattle.tc_term.specs.Room.{TakesRoom}
use Rattle.tc_unify.specs.Values.{of_node}
use Rattle.tc_unify.proofs.Fixed.{Builds}
use Rattle.tc_unify.proofs.values.+node_value.Given as goal

abbrev pub decreases-node_value : goal.decreases-node_value
decreases-node_value l = l.depth

abbrev pub invariant-loop-argument : goal.invariant-loop-argument
invariant-loop-argument l = record {
  deep : 0 < l.depth;
  arguments : All (IsNodeOf l.arena) l.spine.arguments.items;
  spent : TakesRoom (applied_over tree_of (Atomic l.name) l.values.items) l.depth l.fn.room l.room;
  value : Builds l.arena l.links (λ v. label (shape_of l.arena) (at v)) (of_node l.arena l.node) l.name l.values.items (reverse l.spine.arguments.items);
}

abbrev pub decreases-loop-argument : goal.decreases-loop-argument
decreases-loop-argument l = length l.spine.arguments.items
