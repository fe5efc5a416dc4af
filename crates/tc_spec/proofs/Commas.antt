-- The leaves of a body: by cases, and of its sides.
use Rattle.std.proofs.Common.{◌≡◌, ◌<◌, ◌++◌, ◌∷◌, [], ℕ, List, Bool, true, false, if◌then◌else◌, length, map, refl, ap, sym, ◌∙◌, codes, length-append, arith}
use Rattle.std.proofs.lemmas.List.{append_assoc, map-append}
use Rattle.std.proofs.lemmas.Slice.Eq.{bytes_eq-Decides}
use Rattle.std.specs.Str.{bytes_eq}
use Rattle.tc_term.specs.Tree.{Tree, Variable, Atomic, Number, Compound, Last, More}
use Rattle.tc_term.specs.TreeView.{tree_of}
use Rattle.tc_term.specs.declared.terms.Term.{Term}
use Rattle.tc_spec.specs.Written.{leaves, IsTwo, IsNoTwo}

-- what holds of single leaves, and of a comma where it holds of its sides, holds of all bodies
module _ (P : Tree → List Tree → Type 0) (one : (t : Tree) → P t (t ∷ []))
    (both : (name : List ℕ) (s u : Tree) (xs ys : List Tree) → bytes_eq name (codes ",") ≡ true
    → P s xs → P u ys → P (Compound name (More s (Last u))) (xs ++ ys)) where
  by_name : (name : List ℕ) (s u : Tree) (b : Bool) → bytes_eq name (codes ",") ≡ b → P s (leaves s) → P u (leaves u)
      → P (Compound name (More s (Last u))) (if b then leaves s ++ leaves u else Compound name (More s (Last u)) ∷ [])
  by_name name s u true same hs hu = both name s u (leaves s) (leaves u) same hs hu
  by_name name s u false same hs hu = one (Compound name (More s (Last u)))

  pub by_leaves : (t : Tree) → P t (leaves t)
  by_leaves (Variable n) = one (Variable n)
  by_leaves (Atomic name) = one (Atomic name)
  by_leaves (Number n) = one (Number n)
  by_leaves (Compound name (Last t)) = one (Compound name (Last t))
  by_leaves (Compound name (More s (Last u))) =
      by_name name s u (bytes_eq name (codes ",")) refl (by_leaves s) (by_leaves u)
  by_leaves (Compound name (More s (More u us))) = one (Compound name (More s (More u us)))

-- there is a leaf
pub leaves-some : (t : Tree) → 0 < length (leaves t)
leaves-some t =
    by_leaves (λ s xs. 0 < length xs) (λ s. omega arith)
    (λ name s u xs ys same hs hu. omega (arith, hs, length-append xs ys)) t

-- the leaves of a comma
pub leaves-pair : (t s u : Tree) → IsTwo (codes ",") t s u → leaves t ≡ leaves s ++ leaves u
leaves-pair t s u pair = ap leaves pair

-- a term that is no comma is its own leaf
pub leaves-other : (t : Tree) → IsNoTwo (codes ",") t → leaves t ≡ t ∷ []
leaves-other t none =
    by_leaves (λ s xs. IsNoTwo (codes ",") s → xs ≡ s ∷ []) (λ s none. refl)
    (λ name s u xs ys same hs hu none.
    absurd (none s u (ap (λ n. Compound n (More s (Last u))) ((bytes_eq-Decides name (codes ",")).0 same))))
    t none

-- the leaves of both sides, one behind another
pub pushed_pair : (old between new : List Term) (t s u : Tree) → IsTwo (codes ",") t s u
    → map tree_of between ≡ map tree_of old ++ leaves s → map tree_of new ≡ map tree_of between ++ leaves u
    → map tree_of new ≡ map tree_of old ++ leaves t
pushed_pair old between new t s u pair left right =
    right ∙ ap (λ ts. ts ++ leaves u) left ∙ append_assoc (map tree_of old) (leaves s) (leaves u)
    ∙ ap (λ ts. map tree_of old ++ ts) (sym (leaves-pair t s u pair))

-- one leaf more
pub pushed_leaf : (old new : List Term) (copy : Term) (t : Tree) → IsNoTwo (codes ",") t → tree_of copy ≡ t
    → new ≡ old ++ copy ∷ [] → map tree_of new ≡ map tree_of old ++ leaves t
pushed_leaf old new copy t none same pushed =
    ap (map tree_of) pushed ∙ map-append tree_of old (copy ∷ [])
    ∙ ap (λ (u : Tree). map tree_of old ++ u ∷ []) same ∙ ap (λ ts. map tree_of old ++ ts) (sym (leaves-other t none))
