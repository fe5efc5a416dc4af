-- Arguments are less deep than their compound.
use Rattle.std.specs.Prelude.{◌≤◌, List, [], ◌∷◌}
use Rattle.std.proofs.Common.{arith}
use Rattle.tc_term.specs.Tree.{depth, depth_of_all}
use Rattle.tc_term.specs.TreeView.{tree_of, trees_of}
use Rattle.tc_term.specs.declared.terms.Term.{Term}
use Rattle.tc_term.specs.declared.terms.Term.TheVariants.{Var, Atom, Int, Comp}
use Rattle.tc_term.specs.declared.terms.Args.TheDeep.{deep-Term, deep-Block}
use Rattle.tc_term.specs.Blocks.{terms_of}
use Rattle.tc_term.specs.declared.terms.Block.{Block}
use Rattle.tc_term.specs.declared.terms.Block.TheVariants.{One, Two, Many}
use denote.Param.Weighed.{most}

-- a term is no deeper, as the toolchain counts, than its tree
pub deep_le-depth : (t : Term) → deep-Term t ≤ depth (tree_of t)
deep_le-depth (Var n) = omega arith
deep_le-depth (Atom name) = omega arith
deep_le-depth (Int n) = omega arith
deep_le-depth (Comp name args) = omega arith

-- and no term of a list is deeper than the arguments that they are
pub most_le-depth : (ts : List Term) → most deep-Term ts ≤ depth_of_all (trees_of ts)
most_le-depth [] = omega arith
most_le-depth (t ∷ []) = omega (arith, deep_le-depth t)
most_le-depth (t ∷ u ∷ ts) = omega (arith, deep_le-depth t, most_le-depth (u ∷ ts))

-- nor one of a block deeper than the arguments that it has
pub block_le-depth : (b : Block) → deep-Block b ≤ depth_of_all (trees_of (terms_of b))
block_le-depth (One ts) = omega (arith, most_le-depth ts)
block_le-depth (Two ts) = omega (arith, most_le-depth ts)
block_le-depth (Many ts) = omega (arith, most_le-depth ts.items)
