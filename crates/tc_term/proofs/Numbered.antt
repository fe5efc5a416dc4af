-- Terms whose variables are 0, 1, .. by first appearance.
use Rattle.std.proofs.Common.{◌≡◌, ◌<◌, ◌≤◌, ◌-◌, ◌⊎◌, inl, inr, ℕ, IsTrue, List, [], length, refl, ap, sym, ◌∙◌, subst, arith, Bool, true, false}
use Rattle.std.specs.List.{range_with_len}
use Rattle.std.proofs.lemmas.Bool.{cases_lt, and_parts}
use Rattle.tc_term.proofs.Instances.{instance-Variable, is_ground-instance}
use Rattle.tc_term.proofs.Places.{Stands, Stands-range, Stands-with_number_back, Stands-with_number_new, place_in-range}
use Rattle.tc_term.proofs.Renumbering.{Stands-variables_after_all}
use Rattle.tc_term.specs.Tree.{Tree, Variable, Atomic, Number, Compound, Trees, Last, More, is_ground, are_ground, IsTuple}
use Rattle.tc_term.specs.Variables.{instance, instances, place_in, var_bound, var_bound_of_all, variables_after, variables_after_all, variables, renumbered, IsPattern}

-- only the trees of the variables that stand in a term count
mutual
  pub instance-alike : (f g : ℕ → Tree) (t : Tree) (seen : List ℕ) →
      ((n : ℕ) → Stands (variables_after seen t) n → f n ≡ g n) → instance f t ≡ instance g t
  instance-alike f g (Variable n) seen alike = alike n (Stands-with_number_new seen n)
  instance-alike f g (Atomic name) seen alike = refl
  instance-alike f g (Number n) seen alike = refl
  instance-alike f g (Compound name args) seen alike = ap (Compound name) (instances-alike f g args seen alike)

  pub instances-alike : (f g : ℕ → Tree) (ts : Trees) (seen : List ℕ) →
      ((n : ℕ) → Stands (variables_after_all seen ts) n → f n ≡ g n) → instances f ts ≡ instances g ts
  instances-alike f g (Last t) seen alike = ap Last (instance-alike f g t seen alike)
  instances-alike f g (More t ts) seen alike =
      let first = instance-alike f g t seen (λ n stands. alike n (Stands-variables_after_all ts (variables_after seen t) n stands)) in
      let rest = instances-alike f g ts (variables_after seen t) alike in
      cc

-- numbers below which all variables lie
mutual
  pub var_bound_within : (t : Tree) (seen : List ℕ) (len : ℕ) →
      ((n : ℕ) → Stands (variables_after seen t) n → n < len) → var_bound t ≤ len
  var_bound_within (Variable n) seen len below = omega (arith, below n (Stands-with_number_new seen n))
  var_bound_within (Atomic name) seen len below = omega arith
  var_bound_within (Number n) seen len below = omega arith
  var_bound_within (Compound name args) seen len below = var_bound_of_all_within args seen len below

  pub var_bound_of_all_within : (ts : Trees) (seen : List ℕ) (len : ℕ) →
      ((n : ℕ) → Stands (variables_after_all seen ts) n → n < len) → var_bound_of_all ts ≤ len
  var_bound_of_all_within (Last t) seen len below = var_bound_within t seen len below
  var_bound_of_all_within (More t ts) seen len below =
      omega (
        arith,
        var_bound_within t seen len (λ n stands. below n (Stands-variables_after_all ts (variables_after seen t) n stands)),
        var_bound_of_all_within ts (variables_after seen t) len below,
      )

mutual
  pub below_var_bound : (t : Tree) (seen : List ℕ) (m : ℕ) →
      Stands (variables_after seen t) m → Stands seen m ⊎ (m < var_bound t)
  below_var_bound (Variable n) seen m stands =
      elim (Stands-with_number_back seen m n stands) [ inl old ↦ inl old | inr new ↦ inr (omega (arith, new)) ]
  below_var_bound (Atomic name) seen m stands = inl stands
  below_var_bound (Number n) seen m stands = inl stands
  below_var_bound (Compound name args) seen m stands = below_var_bound_of_all args seen m stands

  pub below_var_bound_of_all : (ts : Trees) (seen : List ℕ) (m : ℕ) →
      Stands (variables_after_all seen ts) m → Stands seen m ⊎ (m < var_bound_of_all ts)
  below_var_bound_of_all (Last t) seen m stands = below_var_bound t seen m stands
  below_var_bound_of_all (More t ts) seen m stands =
      elim (below_var_bound_of_all ts (variables_after seen t) m stands) [
        | inl among ↦ elim (below_var_bound t seen m among) [ inl old ↦ inl old | inr below ↦ inr (omega (arith, below)) ]
        | inr below ↦ inr (omega (arith, below))
      ]

-- a term whose variables are 0, 1, .. by first appearance is numbered as it is
pub renumbered-in_order : (t : Tree) → variables t ≡ range_with_len 0 (length (variables t)) → renumbered t ≡ t
renumbered-in_order t numbered =
    let len = length (variables t) in
    instance-alike (λ n. Variable (place_in (variables t) n)) Variable t [] (λ n stands.
    ap Variable (ap (λ vs. place_in vs n) numbered
    ∙ (place_in-range len n (subst (λ vs. Stands vs n) numbered stands)).0))
    ∙ instance-Variable t

pub renumbered-pattern : (t : Tree) → IsPattern t → renumbered t ≡ t
renumbered-pattern t pattern = renumbered-in_order t pattern.numbered

-- a template's variables are those below their number
pub var_bound-pattern : (t : Tree) → IsPattern t → var_bound t ≡ length (variables t)
var_bound-pattern t pattern =
    let len = length (variables t) in
    let within : var_bound t ≤ len = var_bound_within t [] len (λ n stands.
    (place_in-range len n (subst (λ vs. Stands vs n) pattern.numbered stands)).1) in
    let reached : len ≤ var_bound t =
    elim (cases_lt 0 len) [
      | inr none ↦ omega (arith, none)
      | inl some ↦
          let last : Stands (variables t) (len - 1) =
          subst (λ vs. Stands vs (len - 1)) (sym pattern.numbered) (Stands-range len (len - 1) (omega (arith, some))) in
          elim (below_var_bound t [] (len - 1) last) [
            | inl absent ↦ absurd (omega (arith, absent))
            | inr below ↦ omega (arith, below, some)
          ]
    ] in
    omega (arith, within, reached)

-- a ground term has no variable that wasn't seen
mutual
  pub variables_after-ground : (t : Tree) (seen : List ℕ) → IsTrue (is_ground t) → variables_after seen t ≡ seen
  variables_after-ground (Variable n) seen ground = absurd (cc)
  variables_after-ground (Atomic name) seen ground = refl
  variables_after-ground (Number n) seen ground = refl
  variables_after-ground (Compound name args) seen ground = variables_after_all-ground args seen ground

  pub variables_after_all-ground : (ts : Trees) (seen : List ℕ) → IsTrue (are_ground ts) → variables_after_all seen ts ≡ seen
  variables_after_all-ground (Last t) seen ground = variables_after-ground t seen ground
  variables_after_all-ground (More t ts) seen ground =
      let each = and_parts (is_ground t) (are_ground ts) ground in
      ap (λ s. variables_after_all s ts) (variables_after-ground t seen each.0) ∙ variables_after_all-ground ts seen each.1

pub variables-tuple : (t : Tree) → IsTuple t → variables t ≡ []
variables-tuple t tuple = variables_after-ground t [] tuple.ground

-- a tuple is a template
pub IsPattern-tuple : (t : Tree) → IsTuple t → IsPattern t
IsPattern-tuple t tuple =
    let none = variables-tuple t tuple in
    record {
      template = record { fits = tuple.fits; few = omega (arith, ap length none) };
      numbered = none ∙ ap (range_with_len 0) (ap length (sym none));
    }

-- a template is a tuple exactly where it has no variable
pub IsTuple-pattern : (t : Tree) → IsPattern t → length (variables t) ≡ 0 → IsTuple t
IsTuple-pattern t pattern none = record {
  ground = subst (λ u. IsTrue (is_ground u)) (renumbered-pattern t pattern)
      (is_ground-instance (λ n. Variable (place_in (variables t) n)) t (λ n below. absurd (omega (arith, below, var_bound-pattern t pattern, none))));
  fits = pattern.template.fits;
}

pub is_ground-variables : (t : Tree) → 0 < length (variables t) → is_ground t ≡ false
is_ground-variables t some = by (is_ground t) refl
  where
    by : (b : Bool) → is_ground t ≡ b → b ≡ false
    by true ground = absurd (omega (arith, some, ap length (variables_after-ground t [] ground)))
    by false e = refl
