-- Terms as they are seen in contracts.
use Rattle.std.specs.Prelude.{List, [], ◌∷◌}
use Rattle.tc_term.specs.declared.terms.Term.{Term}
use Rattle.tc_term.specs.declared.terms.Term.TheVariants.{Var, Atom, Int, Comp}
use Rattle.tc_term.specs.Tree.{Tree, Variable, Atomic, Number, Compound, Trees, Last, More}

-- the tree of a term
abbrev pub tree_of : Term → Tree
tree_of (Var n) = Variable n
tree_of (Atom name) = Atomic name
tree_of (Int n) = Number n
tree_of (Comp name args) = Compound name args

-- the trees of a list of terms; of no term, any tree
abbrev pub trees_of : List Term → Trees
trees_of [] = Last (Atomic [])
trees_of (t ∷ []) = Last (tree_of t)
trees_of (t ∷ u ∷ ts) = More (tree_of t) (trees_of (u ∷ ts))
