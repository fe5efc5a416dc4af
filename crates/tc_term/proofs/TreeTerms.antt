-- The term of a tree.
use Rattle.std.proofs.Common.{◌≡◌, refl}
use Rattle.tc_term.specs.Tree.{Tree, Variable, Atomic, Number, Compound}
use Rattle.tc_term.specs.TreeView.{tree_of}
use Rattle.tc_term.specs.declared.terms.Term.{Term}
use Rattle.tc_term.specs.declared.terms.Term.TheVariants.{Var, Atom, Int, Comp}

abbrev pub term_of : Tree → Term
term_of (Variable n) = Var n
term_of (Atomic name) = Atom name
term_of (Number z) = Int z
term_of (Compound name args) = Comp name args

pub term_of-tree_of : (t : Term) → term_of (tree_of t) ≡ t
term_of-tree_of (Var n) = refl
term_of-tree_of (Atom name) = refl
term_of-tree_of (Int z) = refl
term_of-tree_of (Comp name args) = refl
