-- The first places of grants: where one more is appended, and where the first of some is removed.
use Rattle.std.proofs.Common.{◌≡◌, ◌⊎◌, ℕ, zero, suc, Bool, true, false, if◌then◌else◌, Option, Some, None, List, [], ◌∷◌, ◌++◌, Contains, length, take, remove, inl, inr, refl, sym, ap, ◌∙◌, subst, arith}
use Rattle.std.specs.Option.{option_map}
use Rattle.std.proofs.lemmas.Bool.Decides.{nat_tests}
use Rattle.std.proofs.lemmas.Map.Made.{Contains-tail}
use Rattle.std.proofs.lemmas.Option.{same_Some}
use Rattle.tc_policy.specs.Places.{IsFirstAt, first_place, lowered}
use Rattle.tc_policy.specs.Same.{same_grant, same_grant-Decides}
use Rattle.tc_policy.specs.declared.grants.Grant.{Grant}

-- whether two grants are equal, and what the test tells
abbrev pub Tells : Bool → Type 0 → Type 0
Tells b P = ((b ≡ true) × P) ⊎ ((b ≡ false) × (P → ⊥))

tells_by : (b : Bool) (P : Type 0) → (b ≡ true → P) → (P → b ≡ true) → Tells b P
tells_by true P told tells = inl (refl, told refl)
tells_by false P told tells = inr (refl, λ p. let e : false ≡ true = tells p in cc)

pub same_tells : (h g : Grant) → Tells (same_grant h g) (h ≡ g)
same_tells h g = tells_by (same_grant h g) (h ≡ g) (same_grant-Decides h g).0 (same_grant-Decides h g).1

-- the first place of a grant behind another
first_here : (h g : Grant) (hs : List Grant) → same_grant h g ≡ true → first_place g (h ∷ hs) ≡ Some 0
first_here h g hs e = ap (λ b. if b then Some 0 else option_map suc (first_place g hs)) e

first_behind : (h g : Grant) (hs : List Grant) → same_grant h g ≡ false
    → first_place g (h ∷ hs) ≡ option_map suc (first_place g hs)
first_behind h g hs e = ap (λ b. if b then Some 0 else option_map suc (first_place g hs)) e

-- the place from which one behind was counted
before_suc : (o : Option ℕ) (k : ℕ) → option_map suc o ≡ Some (suc k) → o ≡ Some k
before_suc None k e = absurd (cc)
before_suc (Some n) k e = let same : suc n ≡ suc k = cc in ap Some (omega (arith, same))

no_zero : (o : Option ℕ) → option_map suc o ≡ Some zero → ⊥
no_zero None e = cc
no_zero (Some n) e = let same : suc n ≡ zero = cc in omega (arith, same)

none_suc : (o : Option ℕ) → option_map suc o ≡ None → o ≡ None
none_suc None e = refl
none_suc (Some n) e = absurd (cc)

contains_none : (g : Grant) → Contains [] g → ⊥
contains_none g has = omega (arith, has.1)

-- a first place is one
pub first_place-is : (g : Grant) (xs : List Grant) (k : ℕ) → first_place g xs ≡ Some k → IsFirstAt g xs k
first_place-is g [] k e = absurd (cc)
first_place-is g (x ∷ xs) zero e =
    elim (same_tells x g) [
      | inl same ↦ record { stands = ap Some same.1; first = contains_none g }
      | inr other ↦ absurd (no_zero (first_place g xs) (sym (first_behind x g xs other.0) ∙ e))
    ]
first_place-is g (x ∷ xs) (suc k) e =
    elim (same_tells x g) [
      | inl same ↦ let never : Some 0 ≡ Some (suc k) = sym (first_here x g xs same.0) ∙ e in
          absurd (omega (arith, same_Some 0 (suc k) never))
      | inr other ↦
          let rest = first_place-is g xs k (before_suc (first_place g xs) k (sym (first_behind x g xs other.0) ∙ e)) in
          record { stands = rest.stands; first = λ has. rest.first (Contains-tail x (take k xs) g other.1 has) }
    ]

pub first_place-none : (g : Grant) (xs : List Grant) → first_place g xs ≡ None → Contains xs g → ⊥
first_place-none g [] e has = contains_none g has
first_place-none g (x ∷ xs) e has =
    elim (same_tells x g) [
      | inl same ↦ let never : Some 0 ≡ None = sym (first_here x g xs same.0) ∙ e in cc
      | inr other ↦
          first_place-none g xs (none_suc (first_place g xs) (sym (first_behind x g xs other.0) ∙ e))
          (Contains-tail x xs g other.1 has)
    ]

-- where a grant stands first is its first place
contains_head : (x : Grant) (xs : List Grant) → Contains (x ∷ xs) x
contains_head x xs = (0, omega arith, refl)

contains_behind : (x g : Grant) (xs : List Grant) → Contains xs g → Contains (x ∷ xs) g
contains_behind x g xs has = (suc has.0, omega (arith, has.1), has.2)

pub first_place-from : (g : Grant) (xs : List Grant) (k : ℕ) → IsFirstAt g xs k → first_place g xs ≡ Some k
first_place-from g [] k at = let never : None ≡ Some g = at.stands in absurd (cc)
first_place-from g (x ∷ xs) zero at =
    first_here x g xs ((same_grant-Decides x g).1 (same_Some x g at.stands))
first_place-from g (x ∷ xs) (suc k) at =
    elim (same_tells x g) [
      | inl same ↦
          absurd (at.first (subst (λ (y : Grant). Contains (x ∷ take k xs) y) same.1 (contains_head x (take k xs))))
      | inr other ↦
          first_behind x g xs other.0
          ∙ ap (option_map suc) (first_place-from g xs k (record {
            stands = at.stands;
            first = λ has. at.first (contains_behind x g (take k xs) has);
          }))
    ]

pub first_place-absent : (g : Grant) (xs : List Grant) → (Contains xs g → ⊥) → first_place g xs ≡ None
first_place-absent g [] none = refl
first_place-absent g (x ∷ xs) none =
    elim (same_tells x g) [
      | inl same ↦ absurd (none (subst (λ (y : Grant). Contains (x ∷ xs) y) same.1 (contains_head x xs)))
      | inr other ↦
          first_behind x g xs other.0
          ∙ ap (option_map suc) (first_place-absent g xs (λ has. none (contains_behind x g xs has)))
    ]

-- one more grant: what stands before keeps its place
pub first_place-push_known : (g h : Grant) (xs : List Grant) (k : ℕ) → first_place g xs ≡ Some k
    → first_place g (xs ++ h ∷ []) ≡ Some k
first_place-push_known g h [] k e = absurd (cc)
first_place-push_known g h (x ∷ xs) zero e =
    elim (same_tells x g) [
      | inl same ↦ first_here x g (xs ++ h ∷ []) same.0
      | inr other ↦ absurd (no_zero (first_place g xs) (sym (first_behind x g xs other.0) ∙ e))
    ]
first_place-push_known g h (x ∷ xs) (suc k) e =
    elim (same_tells x g) [
      | inl same ↦ let never : Some 0 ≡ Some (suc k) = sym (first_here x g xs same.0) ∙ e in
          absurd (omega (arith, same_Some 0 (suc k) never))
      | inr other ↦
          first_behind x g (xs ++ h ∷ []) other.0
          ∙ ap (option_map suc)
          (first_place-push_known g h xs k (before_suc (first_place g xs) k (sym (first_behind x g xs other.0) ∙ e)))
    ]

-- and what stands nowhere before has its place at the end, if it is the one
pub first_place-push_new : (g h : Grant) (xs : List Grant) → first_place g xs ≡ None
    → first_place g (xs ++ h ∷ []) ≡ (if same_grant h g then Some (length xs) else None)
first_place-push_new g h [] none = refl
first_place-push_new g h (x ∷ xs) none =
    elim (same_tells x g) [
      | inl same ↦ let never : Some 0 ≡ None = sym (first_here x g xs same.0) ∙ none in absurd (cc)
      | inr other ↦
          let rest = first_place-push_new g h xs (none_suc (first_place g xs) (sym (first_behind x g xs other.0) ∙ none)) in
          first_behind x g (xs ++ h ∷ []) other.0 ∙ ap (option_map suc) rest ∙ suc_if (same_grant h g) (length xs)
    ]
  where
    suc_if : (b : Bool) (n : ℕ) → option_map suc (if b then Some n else None) ≡ (if b then Some (suc n) else None)
    suc_if true n = refl
    suc_if false n = refl

-- the first of some is removed: each other grant that stands behind it moves down
lowered-zero : (o : Option ℕ) → o ≡ option_map (lowered 0) (option_map suc o)
lowered-zero None = refl
lowered-zero (Some k) = let down : k ≡ lowered 0 (suc k) = grind (arith, nat_tests) in ap Some down

lowered-suc : (n : ℕ) (o : Option ℕ) → option_map suc (option_map (lowered n) o) ≡ option_map (lowered (suc n)) (option_map suc o)
lowered-suc n None = refl
lowered-suc n (Some k) = let down : suc (lowered n k) ≡ lowered (suc n) (suc k) = grind (arith, nat_tests) in ap Some down

pub first_place-remove : (g h : Grant) (xs : List Grant) (n : ℕ) → first_place h xs ≡ Some n → same_grant h g ≡ false
    → first_place g (remove xs n) ≡ option_map (lowered n) (first_place g xs)
first_place-remove g h [] n e apart = absurd (cc)
first_place-remove g h (x ∷ xs) zero e apart =
    elim (same_tells x h) [
      | inl same ↦
          let other : same_grant x g ≡ false = ap (λ (y : Grant). same_grant y g) same.1 ∙ apart in
          lowered-zero (first_place g xs) ∙ ap (option_map (lowered 0)) (sym (first_behind x g xs other))
      | inr other ↦ absurd (no_zero (first_place h xs) (sym (first_behind x h xs other.0) ∙ e))
    ]
first_place-remove g h (x ∷ xs) (suc n) e apart =
    elim (same_tells x h) [
      | inl same ↦ let never : Some 0 ≡ Some (suc n) = sym (first_here x h xs same.0) ∙ e in
          absurd (omega (arith, same_Some 0 (suc n) never))
      | inr other ↦
          let at : first_place h xs ≡ Some n = before_suc (first_place h xs) n (sym (first_behind x h xs other.0) ∙ e) in
          removed_behind (first_place-remove g h xs n at apart)
    ]
  where
    removed_behind : first_place g (remove xs n) ≡ option_map (lowered n) (first_place g xs)
        → first_place g (x ∷ remove xs n) ≡ option_map (lowered (suc n)) (first_place g (x ∷ xs))
    removed_behind rest =
        elim (same_tells x g) [
          | inl here ↦
              let stays : 0 ≡ lowered (suc n) 0 = grind (arith, nat_tests) in
              first_here x g (remove xs n) here.0 ∙ ap Some stays
              ∙ ap (option_map (lowered (suc n))) (sym (first_here x g xs here.0))
          | inr behind ↦
              first_behind x g (remove xs n) behind.0 ∙ ap (option_map suc) rest ∙ lowered-suc n (first_place g xs)
              ∙ ap (option_map (lowered (suc n))) (sym (first_behind x g xs behind.0))
        ]
