use Rattle.std.proofs.Common.{◌≡◌, ℕ, ◌<◌, ◌≤◌, IsTrue, length, get_or}
use Rattle.tc_term.specs.declared.terms.Term.{Term}
use Rattle.tc_term.specs.Tree.{depth, is_ground}
use Rattle.tc_term.specs.TreeView.{tree_of}
use Rattle.tc_term.specs.Variables.{var_bound}
use Rattle.tc_search.specs.Bindings.{AreGround, MakesTuple, Binds}
use Rattle.tc_search.proofs.Walking.{MakesFrom}
use Rattle.tc_search.proofs.matching.+agrees.Given as goal

abbrev pub decreases-agrees : goal.decreases-agrees
decreases-agrees l = depth (tree_of l.term.now)

abbrev pub invariant-loop-i : goal.invariant-loop-i
invariant-loop-i l = record {
  ours : (i : ℕ) (x : Term) → i < length l.ours → x ≡ get_or l.ours i x
      → (depth (tree_of x) < depth (tree_of l.term)) × (var_bound (tree_of x) ≤ length l.bound);
  theirs : (i : ℕ) (x : Term) → i < length l.theirs → x ≡ get_or l.theirs i x → IsTrue (is_ground (tree_of x));
  ground : AreGround l.bound;
  binds : Binds l.fn.bound (MakesTuple (tree_of l.term) (tree_of l.tuple)) l.bound (MakesFrom l.i l.ours l.theirs);
}
