-- Where a list whose numbers rise is cut at one.
use Rattle.std.proofs.Common.{◌≡◌, ℕ, ◌<◌, ◌≤◌, true, false, nat_lt, List, AllPairs, Contains, Some, get_or, slice_get}
use Rattle.std.proofs.Common.{inl, inr, ltb-true, lt-ltb, sym, subst, ap, ◌∙◌, ⊎_elim, arith}
use Rattle.std.specs.List.Sorted.{IsPartitionPoint, IsPartitionedBy}
use Rattle.std.proofs.lemmas.Bool.{cases_lt, ltb-false}
use Rattle.std.proofs.lemmas.Option.{get_or_from_slice_get}

module _ {X : Type 0} (f : X → ℕ) (xs : List X) (n : ℕ) where
  -- numbers below one stand before the others
  pub parted : AllPairs (λ x y. f x < f y) xs → IsPartitionedBy (λ x. nat_lt (f x) n) xs
  parted rise i j d up inside passes =
      elim (cases_lt i j) [
        | inl less ↦
            let below : f (get_or xs j d) < n = ltb-true (f (get_or xs j d)) n passes in
            lt-ltb (f (get_or xs i d)) n (omega (arith, rise i j d less inside, below))
        | inr from ↦
            let same : i ≡ j = omega (arith, up, from) in
            subst (λ k. nat_lt (f (get_or xs k d)) n ≡ true) (sym same) passes
      ]

  -- by the test that a bisection makes
  pub pointed : (i : ℕ)
      → IsPartitionPoint (λ x. nat_lt (f x) n ≡ true) (λ x. nat_lt (f x) n ≡ false) xs i
      → IsPartitionPoint (λ x. f x < n) (λ x. n ≤ f x) xs i
  pointed i point = (
    λ k d from below. ltb-true (f (get_or xs k d)) n (point.0 k d from below),
    λ k d from below. ltb-false (f (get_or xs k d)) n (point.1 k d from below),
  )

module _ {X : Type 0} (f : X → ℕ) (xs : List X) (n i : ℕ) (rise : AllPairs (λ x y. f x < f y) xs)
    (point : IsPartitionPoint (λ x. f x < n) (λ x. n ≤ f x) xs i) (x : X) (has : Contains xs x) where
  -- what isn't below the number stands behind the cut
  pub cut-behind : n ≤ f x → i ≤ has.0
  cut-behind least =
      ⊎_elim
      (λ (less : has.0 < i). absurd (omega (arith, point.0 has.0 x (omega arith) less, ap f has.2, least)))
      (λ (from : i ≤ has.0). from)
      (cases_lt has.0 i)

  module _ (y : X) (at : slice_get xs i ≡ Some y) where
    here : get_or xs i x ≡ y
    here = get_or_from_slice_get xs i y x at

    -- the first behind the cut is the least
    pub cut-least : n ≤ f x → f y ≤ f x
    cut-least least =
        ⊎_elim
        (λ (less : i < has.0). omega (arith, rise i has.0 x less has.1, ap f here, ap f has.2))
        (λ (from : has.0 ≤ i).
        let same : has.0 ≡ i = omega (arith, cut-behind least, from) in
        omega (arith, ap f (sym here ∙ (ap (λ k. get_or xs k x) (sym same) ∙ has.2))))
        (cases_lt i has.0)

    -- and the one of the number, where there is one
    pub cut-same : f x ≡ n → y ≡ x
    cut-same is =
        ⊎_elim
        (λ (less : i < has.0).
        absurd (omega (arith, rise i has.0 x less has.1, ap f has.2, is, point.1 i x (omega arith) (omega (arith, less, has.1)))))
        (λ (from : has.0 ≤ i).
        let same : has.0 ≡ i = omega (arith, cut-behind (omega (arith, is)), from) in
        sym here ∙ (ap (λ k. get_or xs k x) (sym same) ∙ has.2))
        (cases_lt i has.0)
