-- A list read by place, and sums over it after one place has changed.
use Rattle.std.proofs.Common.{◌≡◌, ℕ, zero, suc, ◌+◌, ◌<◌, ◌≤◌, ◌≢◌, List, [], ◌∷◌, length, set, sum_by, sym, refl, ap, ◌∙◌, arith}
use mathlib.Core.Option.{some, some-injective, some-ne-none}
use lib.ListN.{get_elem?}
use Rattle.std.proofs.lemmas.List.Sums.{sum_by-cons}

module _ {A : Type 0} where
  pub at_below : (l : List A) (i : ℕ) (a : A) → get_elem? l i ≡ some a → i < length l
  at_below [] i a e = absurd (some-ne-none a (sym e))
  at_below (x ∷ xs) zero a e = omega arith
  at_below (x ∷ xs) (suc i) a e = omega (arith, at_below xs i a e)

  -- a place has one element
  pub at_same : (l : List A) (i : ℕ) (a b : A) → get_elem? l i ≡ some a → get_elem? l i ≡ some b → a ≡ b
  at_same l i a b e d = some-injective a b (sym e ∙ d)

module _ {A : Type 0} (f : A → ℕ) where
  pub sum_by-set_at : (l : List A) (j : ℕ) (v w : A) → get_elem? l j ≡ some v → sum_by f (set l j w) + f v ≡ sum_by f l + f w
  sum_by-set_at [] j v w e = absurd (some-ne-none v (sym e))
  sum_by-set_at (x ∷ xs) zero v w e =
      omega (arith, ap f (some-injective x v e), sum_by-cons f x xs, sum_by-cons f w xs)
  sum_by-set_at (x ∷ xs) (suc j) v w e =
      omega (arith, sum_by-set_at xs j v w e, sum_by-cons f x xs, sum_by-cons f x (set xs j w))

  -- a place weighs at most the whole
  pub le-sum_by : (l : List A) (j : ℕ) (v : A) → get_elem? l j ≡ some v → f v ≤ sum_by f l
  le-sum_by [] j v e = absurd (some-ne-none v (sym e))
  le-sum_by (x ∷ xs) zero v e = omega (arith, ap f (some-injective x v e), sum_by-cons f x xs)
  le-sum_by (x ∷ xs) (suc j) v e = omega (arith, le-sum_by xs j v e, sum_by-cons f x xs)

  -- two places weigh at most the whole
  pub both-le-sum_by : (l : List A) (j k : ℕ) (v u : A) → k ≢ j → get_elem? l j ≡ some v → get_elem? l k ≡ some u
      → f v + f u ≤ sum_by f l
  both-le-sum_by [] j k v u n e d = absurd (some-ne-none v (sym e))
  both-le-sum_by (x ∷ xs) zero zero v u n e d = absurd (n refl)
  both-le-sum_by (x ∷ xs) zero (suc k) v u n e d =
      omega (arith, ap f (some-injective x v e), le-sum_by xs k u d, sum_by-cons f x xs)
  both-le-sum_by (x ∷ xs) (suc j) zero v u n e d =
      omega (arith, ap f (some-injective x u d), le-sum_by xs j v e, sum_by-cons f x xs)
  both-le-sum_by (x ∷ xs) (suc j) (suc k) v u n e d =
      omega (arith, both-le-sum_by xs j k v u (λ h. n (ap suc h)) e d, sum_by-cons f x xs)
