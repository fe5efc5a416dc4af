-- Lists of terms as arguments.
use Rattle.std.proofs.Common.{◌≡◌, ◌<◌, List, [], ◌∷◌, length, refl, arith}
use Rattle.tc_term.specs.Tree.{Tree, Trees, More}
use Rattle.tc_term.specs.TreeView.{tree_of, trees_of}
use Rattle.tc_term.specs.declared.terms.Term.{Term}

-- four arguments or more
pub many_arguments : (ts : List Term) → 3 < length ts
    → (a : Tree) × (b : Tree) × (c : Tree) × (rest : Trees) × (trees_of ts ≡ More a (More b (More c rest)))
many_arguments [] many = absurd (omega (arith, many))
many_arguments (a ∷ []) many = absurd (omega (arith, many))
many_arguments (a ∷ b ∷ []) many = absurd (omega (arith, many))
many_arguments (a ∷ b ∷ c ∷ []) many = absurd (omega (arith, many))
many_arguments (a ∷ b ∷ c ∷ d ∷ ts) many = (tree_of a, tree_of b, tree_of c, trees_of (d ∷ ts), refl)
