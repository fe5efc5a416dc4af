-- Why a term is no tuple.
use Rattle.std.specs.Prelude.{◌≡◌, false}
use Rattle.tc_term.specs.Limits.{most_depth}
use Rattle.tc_term.specs.Room.{whole, IsWithin}
use Rattle.tc_term.specs.Tree.{Fits, is_ground}
use Rattle.tc_term.specs.TreeView.{tree_of}
use Rattle.tc_term.specs.declared.terms.Term.{Term}
use Rattle.tc_term.specs.declared.tuple.NotTuple.{NotTuple}
use Rattle.tc_term.specs.declared.tuple.NotTuple.TheVariants.{TooBig, NotGround}

-- the term, given back, is too big, whatever its numbers, or it fits and has a variable
abbrev pub HasTupleCause : Term → NotTuple → Type 0
HasTupleCause t (TooBig u) = (u ≡ t) × (IsWithin (tree_of t) most_depth whole → ⊥)
HasTupleCause t (NotGround u) = (u ≡ t) × Fits (tree_of t) × (is_ground (tree_of t) ≡ false)
