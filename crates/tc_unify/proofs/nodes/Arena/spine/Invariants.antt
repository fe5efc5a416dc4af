use Rattle.std.proofs.Common.{◌≡◌, ℕ, reverse, All}
use Rattle.tc_term.specs.Tree.{Tree, nodes}
use Rattle.tc_unify.specs.Nodes.{IsHead, applied_over, label}
use Rattle.tc_unify.specs.Arena.{IsNodeOf, shape_of, node_tree}
use Rattle.tc_unify.proofs.nodes.Arena.spine.Given as goal

abbrev pub invariant-loop-atom : goal.invariant-loop-atom
invariant-loop-atom l = record {
  inside : IsNodeOf l.self l.atom;
  head : IsHead (shape_of l.self l.atom);
  arguments : All (IsNodeOf l.self) l.arguments.items;
  tree : (v : ℕ → Tree) → label (shape_of l.self) v l.node
      ≡ applied_over (label (shape_of l.self) v) (label (shape_of l.self) v l.atom) (reverse l.arguments.items);
}

abbrev pub decreases-loop-atom : goal.decreases-loop-atom
decreases-loop-atom l = nodes (node_tree l.self l.atom)
