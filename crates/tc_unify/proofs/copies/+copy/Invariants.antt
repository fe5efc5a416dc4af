use Rattle.std.proofs.Common.{◌≡◌, ℕ, ◌<◌, ◌≤◌, length, get_or, drop}
use Rattle.tc_term.specs.declared.terms.Term.{Term}
use Rattle.tc_term.specs.Tree.{depth}
use Rattle.tc_term.specs.TreeView.{tree_of}
use Rattle.tc_term.specs.Variables.{raised, var_bound}
use Rattle.tc_unify.specs.Nodes.{IsHead}
use Rattle.tc_unify.specs.Arena.{IsArena, IsNodeOf, Grows, shape_of, node_tree}
use Rattle.tc_unify.specs.Copies.{applied_to}
use Rattle.tc_unify.proofs.copies.+copy.Given as goal

abbrev pub decreases-copy : goal.decreases-copy
decreases-copy l = depth (tree_of l.term.now)

abbrev pub invariant-loop-arg : goal.invariant-loop-arg
invariant-loop-arg l = record {
  arena : IsArena l.arena;
  args : (i : ℕ) (x : Term) → i < length l.arg-items → x ≡ get_or l.arg-items i x
      → (depth (tree_of x) < depth (tree_of l.term)) × (var_bound (raised l.shift (tree_of x)) ≤ l.arena.variables);
  grows : Grows l.fn.arena l.arena;
  inside : IsNodeOf l.arena l.node;
  head : IsHead (shape_of l.arena l.node);
  tree : applied_to l.shift (node_tree l.arena l.node) (drop l.arg-index l.arg-items) ≡ raised l.shift (tree_of l.term);
}
