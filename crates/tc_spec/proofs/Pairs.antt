-- Compounds of two arguments, and of three.
use Rattle.std.proofs.Common.{◌≡◌, ◌<◌, ◌≤◌, ◌+◌, ◌-◌, ℕ, List, [], ◌∷◌, length, refl, sym, ◌∙◌, arith}
use Rattle.tc_term.specs.Tree.{Tree, Compound, Last, More}
use Rattle.tc_term.specs.TreeView.{tree_of, trees_of}
use Rattle.tc_term.specs.declared.terms.Term.{Term}
use Rattle.tc_model.specs.Reactions.{of_two, of_three}
use Rattle.tc_spec.specs.Written.{IsNoTwo, IsNoThree}

same_parts : (own name : List ℕ) (x y s u : Tree) → Compound own (More x (Last y)) ≡ of_two name s u → own ≡ name
same_parts own name x y s u same = cc

pub only_two : (own name : List ℕ) (ts : List Term) (t s u : Tree) → 0 < length ts → t ≡ Compound own (trees_of ts)
    → t ≡ of_two name s u → (length ts ≡ 2) × (own ≡ name)
only_two own name [] t s u some is two = absurd (omega (arith, some))
only_two own name (x ∷ []) t s u some is two = let e : Compound own (Last (tree_of x)) ≡ of_two name s u = sym is ∙ two in absurd (cc)
only_two own name (x ∷ y ∷ []) t s u some is two = (refl, same_parts own name (tree_of x) (tree_of y) s u (sym is ∙ two))
only_two own name (x ∷ y ∷ z ∷ ts) t s u some is two =
    let e : Compound own (More (tree_of x) (More (tree_of y) (trees_of (z ∷ ts)))) ≡ of_two name s u = sym is ∙ two in absurd (cc)

pub no_two_args : (own name : List ℕ) (ts : List Term) (t : Tree) → 0 < length ts → t ≡ Compound own (trees_of ts)
    → 1 ≤ (length ts - 2) + (2 - length ts) → IsNoTwo name t
no_two_args own name ts t some is other s u two =
    absurd (omega (arith, other, (only_two own name ts t s u some is two).0))

same_name : (own name : List ℕ) (x y z s u v : Tree) → Compound own (More x (More y (Last z))) ≡ of_three name s u v → own ≡ name
same_name own name x y z s u v same = cc

pub only_three : (own name : List ℕ) (ts : List Term) (t s u v : Tree) → 0 < length ts → t ≡ Compound own (trees_of ts)
    → t ≡ of_three name s u v → (length ts ≡ 3) × (own ≡ name)
only_three own name [] t s u v some is three = absurd (omega (arith, some))
only_three own name (x ∷ []) t s u v some is three =
    let e : Compound own (Last (tree_of x)) ≡ of_three name s u v = sym is ∙ three in absurd (cc)
only_three own name (x ∷ y ∷ []) t s u v some is three =
    let e : Compound own (More (tree_of x) (Last (tree_of y))) ≡ of_three name s u v = sym is ∙ three in absurd (cc)
only_three own name (x ∷ y ∷ z ∷ []) t s u v some is three =
    (refl, same_name own name (tree_of x) (tree_of y) (tree_of z) s u v (sym is ∙ three))
only_three own name (x ∷ y ∷ z ∷ w ∷ ts) t s u v some is three =
    let e : Compound own (More (tree_of x) (More (tree_of y) (More (tree_of z) (trees_of (w ∷ ts))))) ≡ of_three name s u v = sym is ∙ three in absurd (cc)

pub no_three_args : (own name : List ℕ) (ts : List Term) (t : Tree) → 0 < length ts → t ≡ Compound own (trees_of ts)
    → 1 ≤ (length ts - 3) + (3 - length ts) → IsNoThree name t
no_three_args own name ts t some is other s u v three =
    absurd (omega (arith, other, (only_three own name ts t s u v some is three).0))
