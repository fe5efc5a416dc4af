-- What is typed of a compound, by its arguments.
use Rattle.std.proofs.Common.{◌≡◌, ◌<◌, ◌^◌, ℕ, All, List, [], ◌∷◌, sym, subst}
use Rattle.std.proofs.lemmas.List.Elements.{All-nil, All-head, All-tail}
use Rattle.tc_term.specs.declared.terms.Term.{Term}
use Rattle.tc_term.specs.Tree.{Tree, Compound, Trees}
use Rattle.tc_term.specs.TreeView.{tree_of, trees_of}
use Rattle.tc_model.specs.Typed.{AreBytes}
use Rattle.tc_desk.specs.Typed.{IsTypedTree, AreTypedTrees}

-- the term is what its type promises
abbrev pub IsTypedTerm : Term → Type 0
IsTypedTerm t = IsTypedTree (tree_of t)

AreTypedTrees-trees_of : (ts : List Term) → All IsTypedTerm ts → AreTypedTrees (trees_of ts)
AreTypedTrees-trees_of [] each = All-nil (λ (b : ℕ). b < 2 ^ 8)
AreTypedTrees-trees_of (t ∷ []) each = All-head IsTypedTerm t [] each
AreTypedTrees-trees_of (t ∷ u ∷ ts) each =
    (All-head IsTypedTerm t (u ∷ ts) each, AreTypedTrees-trees_of (u ∷ ts) (All-tail IsTypedTerm t (u ∷ ts) each))

pub IsTypedTree-compound : (t : Tree) (name : List ℕ) (args : Trees) (ts : List Term)
    → t ≡ Compound name args → trees_of ts ≡ args → AreBytes name → All IsTypedTerm ts → IsTypedTree t
IsTypedTree-compound t name args ts compound seen bytes each =
    subst IsTypedTree (sym compound) (bytes, subst AreTypedTrees seen (AreTypedTrees-trees_of ts each))
