use Rattle.std.proofs.Common.{◌≡◌, ℕ, ◌<◌, ◌≤◌, length, get_or, drop}
use Rattle.tc_term.specs.declared.terms.Term.{Term}
use Rattle.tc_term.specs.Tree.{Atomic}
use Rattle.tc_term.specs.TreeView.{tree_of}
use Rattle.tc_term.specs.Variables.{raised, var_bound}
use Rattle.tc_unify.specs.Nodes.{applied_over}
use Rattle.tc_term.specs.Room.{TakesRoom}
use Rattle.tc_unify.specs.Values.{of_term}
use Rattle.tc_unify.proofs.Fixed.{Builds}
use Rattle.tc_unify.proofs.values.+part_value.Given as goal

abbrev pub decreases-part_value : goal.decreases-part_value
decreases-part_value l = l.depth

abbrev pub invariant-loop-arg : goal.invariant-loop-arg
invariant-loop-arg l = record {
  deep : 0 < l.depth;
  args : (i : ℕ) (x : Term) → i < length l.arg-items → x ≡ get_or l.arg-items i x
      → var_bound (raised l.shift (tree_of x)) ≤ l.arena.variables;
  spent : TakesRoom (applied_over tree_of (Atomic l.name) l.values.items) l.depth l.fn.room l.room;
  value : Builds l.arena l.links (λ v x. of_term l.shift x v) (of_term l.shift l.term) l.name l.values.items (drop l.arg-index l.arg-items);
}
