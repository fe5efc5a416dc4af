-- How many brackets texts have open, by the parts of a term.
use Rattle.std.proofs.Common.{◌≡◌, ◌≤◌, ◌+◌, ◌<◌, ℕ, List, [], ◌∷◌, ◌++◌, Bool, true, false, if◌then◌else◌, max, length, refl, ap, ◌∙◌, codes, arith}
use Rattle.tc_lists.proofs.Bools.{bytes_eq-apart}
use Rattle.tc_term.specs.Readable.{in_list, opened, opened_in_all}
use Rattle.tc_term.specs.Text.{Place, Alone, Behind, is_dot, is_nil}
use Rattle.tc_term.specs.Tree.{Tree, Variable, Atomic, Number, Compound, Trees, Last, More, depth, depth_of_all}
use Rattle.tc_term.specs.TreeView.{tree_of, trees_of}
use Rattle.tc_term.specs.TreeFalls.{deep_le-depth}
use Rattle.tc_term.specs.declared.terms.Term.{Term}
use Rattle.tc_term.specs.declared.terms.Term.TheVariants.{Var, Atom, Int, Comp}
use Rattle.tc_term.specs.declared.terms.Args.TheDeep.{deep-Term}
use Rattle.tc_spec.specs.Written.{IsTwo, IsNoTwo}

-- a list cell
pub opened-cell : (place : Place) (t head tail : Tree) → IsTwo (codes ".") t head tail
    → opened place t ≡ in_list place (max (opened Alone head) (opened Behind tail))
opened-cell Alone t head tail cell = ap (opened Alone) cell
opened-cell Behind t head tail cell = ap (opened Behind) cell

-- no cell
opened-other : (place : Place) (name : List ℕ) (args : Trees) → IsNoTwo (codes ".") (Compound name args)
    → opened place (Compound name args) ≡ opened_in_all args + 1
opened-other Alone name (Last t) none = refl
opened-other Behind name (Last t) none = refl
opened-other Alone name (More t (Last u)) none =
    ap (λ b. if b then in_list Alone (max (opened Alone t) (opened Behind u)) else max (opened Alone t) (opened Alone u) + 1)
    (bytes_eq-apart name (codes ".") (λ e. none t u (ap (λ n. Compound n (More t (Last u))) e)))
opened-other Behind name (More t (Last u)) none =
    ap (λ b. if b then in_list Behind (max (opened Alone t) (opened Behind u)) else max (opened Alone t) (opened Alone u) + 1)
    (bytes_eq-apart name (codes ".") (λ e. none t u (ap (λ n. Compound n (More t (Last u))) e)))
opened-other Alone name (More t (More u us)) none = refl
opened-other Behind name (More t (More u us)) none = refl

pub opened-compound : (place : Place) (t : Tree) (name : List ℕ) (args : Trees) → IsNoTwo (codes ".") t
    → t ≡ Compound name args → opened place t ≡ opened_in_all args + 1
opened-compound place t name args none is =
    ap (opened place) is
    ∙ opened-other place name args (λ s u two. none s u (is ∙ two))

-- no more than the term is deep
cell_within : (place : Place) (name : List ℕ) (t u : Tree) (b : Bool) → opened Alone t ≤ depth t → opened Alone u ≤ depth u
    → opened Behind u ≤ depth u
    → (if b then in_list place (max (opened Alone t) (opened Behind u)) else max (opened Alone t) (opened Alone u) + 1)
    ≤ depth (Compound name (More t (Last u)))
cell_within Alone name t u true ht hu hb = omega (arith, ht, hu, hb)
cell_within Behind name t u true ht hu hb = omega (arith, ht, hu, hb)
cell_within Alone name t u false ht hu hb = omega (arith, ht, hu, hb)
cell_within Behind name t u false ht hu hb = omega (arith, ht, hu, hb)

nil_within : (b : Bool) → (if b then 1 else 0) ≤ 1
nil_within true = omega arith
nil_within false = omega arith

mutual
  pub opened-depth : (place : Place) (t : Tree) → opened place t ≤ depth t
  opened-depth Alone (Variable n) = omega arith
  opened-depth Behind (Variable n) = omega arith
  opened-depth Alone (Atomic name) = nil_within (is_nil name)
  opened-depth Behind (Atomic name) = omega arith
  opened-depth Alone (Number z) = omega arith
  opened-depth Behind (Number z) = omega arith
  opened-depth Alone (Compound name (Last t)) = omega (arith, opened-depth Alone t)
  opened-depth Behind (Compound name (Last t)) = omega (arith, opened-depth Alone t)
  opened-depth Alone (Compound name (More t (Last u))) =
      cell_within Alone name t u (is_dot name) (opened-depth Alone t) (opened-depth Alone u) (opened-depth Behind u)
  opened-depth Behind (Compound name (More t (Last u))) =
      cell_within Behind name t u (is_dot name) (opened-depth Alone t) (opened-depth Alone u) (opened-depth Behind u)
  opened-depth Alone (Compound name (More t (More u us))) = omega (arith, opened_in_all-depth (More t (More u us)))
  opened-depth Behind (Compound name (More t (More u us))) = omega (arith, opened_in_all-depth (More t (More u us)))

  pub opened_in_all-depth : (ts : Trees) → opened_in_all ts ≤ depth_of_all ts
  opened_in_all-depth (Last t) = opened-depth Alone t
  opened_in_all-depth (More t ts) = omega (arith, opened-depth Alone t, opened_in_all-depth ts)

-- the most of a list of terms
abbrev pub opened_in : List Term → ℕ
opened_in [] = 0
opened_in (t ∷ ts) = max (opened Alone (tree_of t)) (opened_in ts)

pub opened_in-trees : (ts : List Term) → 0 < length ts → opened_in ts ≡ opened_in_all (trees_of ts)
opened_in-trees [] some = absurd (omega (arith, some))
opened_in-trees (t ∷ []) some = omega arith
opened_in-trees (t ∷ u ∷ ts) some = ap (max (opened Alone (tree_of t))) (opened_in-trees (u ∷ ts) (omega arith))

pub opened_in-push : (ts : List Term) (t : Term) → opened_in (ts ++ t ∷ []) ≡ max (opened_in ts) (opened Alone (tree_of t))
opened_in-push [] t = omega arith
opened_in-push (u ∷ ts) t = omega (arith, opened_in-push ts t)

-- the parts of a cell are less deep, as the toolchain counts
pub cell_falls : (name : List ℕ) (t head tail : Term) → IsTwo name (tree_of t) (tree_of head) (tree_of tail)
    → (deep-Term head < deep-Term t) × (deep-Term tail < deep-Term t)
cell_falls name (Var n) head tail two = absurd (cc)
cell_falls name (Atom own) head tail two = absurd (cc)
cell_falls name (Int n) head tail two = absurd (cc)
cell_falls name (Comp own args) head tail two =
    let deeper = ap depth two in (
      omega (arith, deeper, deep_le-depth head, deep_le-depth tail),
      omega (arith, deeper, deep_le-depth head, deep_le-depth tail),
    )
