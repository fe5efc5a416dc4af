-- Numbers of grants, and where these stand.
use Rattle.std.proofs.Common.{◌≡◌, ℕ, suc, List, Option, Some, None, Contains, IfSome, IfNone, refl, sym, ap, ◌∙◌, arith}
use Rattle.std.specs.Option.{option_map}
use Rattle.std.proofs.lemmas.Option.{none-some, slice_get_within, get_or_from_slice_get}
use Rattle.tc_lists.proofs.Options.{option_map_some}
use Rattle.tc_policy.specs.Places.{IsFirstNumber, first_number, first_place}
use Rattle.tc_policy.specs.declared.grants.Grant.{Grant}
use Rattle.tc_policy.proofs.FirstPlaces.{first_place-absent, first_place-from, first_place-is, first_place-none}

-- what is told of a grant is its number
pub number-is : (g : Grant) (grants : List Grant) (r : Option ℕ) → IfSome r (IsFirstNumber g grants) → IfNone r (Contains grants g → ⊥) → r ≡ first_number g grants
number-is g grants None first none = sym (ap (option_map suc) (first_place-absent g grants none))
number-is g grants (Some n) first none =
    let e : n ≡ suc first.0 = omega (arith, first.1) in
    ap Some e ∙ sym (ap (option_map suc) (first_place-from g grants first.0 first.2))

pub number-first : (g : Grant) (grants : List Grant) (n : ℕ) → first_number g grants ≡ Some n → IsFirstNumber g grants n
number-first g grants n e =
    let found = option_map_some suc (first_place g grants) n e in
    (found.0, omega (arith, found.2), first_place-is g grants found.0 found.1)

pub number-stands : (g : Grant) (grants : List Grant) (n : ℕ) → first_number g grants ≡ Some n → Contains grants g
number-stands g grants n e =
    let first = number-first g grants n e in
    (first.0, slice_get_within grants first.0 g first.2.stands, get_or_from_slice_get grants first.0 g g first.2.stands)

cases : (o : Option ℕ) (P : Type 0) → (o ≡ None → P) → ((k : ℕ) → o ≡ Some k → P) → P
cases None P none some = none refl
cases (Some k) P none some = some k refl

pub number-has : (g : Grant) (grants : List Grant) → Contains grants g → (n : ℕ) × (first_number g grants ≡ Some n)
number-has g grants has =
    cases (first_place g grants) ((n : ℕ) × (first_number g grants ≡ Some n))
    (λ none. absurd (first_place-none g grants none has))
    (λ k some. (suc k, ap (option_map suc) some))

pub number-none : (g : Grant) (grants : List Grant) → first_number g grants ≡ None → Contains grants g → ⊥
number-none g grants none has = let n = number-has g grants has in none-some n.0 (sym none ∙ n.1)
