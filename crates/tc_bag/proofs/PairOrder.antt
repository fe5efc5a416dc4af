-- Pairs of numbers, in order.
use Rattle.std.proofs.Common.{◌≡◌, ◌≢◌, ◌≤◌, ◌⊎◌, inl, inr, ℕ, Bool, true, false, cond, List, ◌∷◌, slice_get, IsTrue, refl, sym, subst, arith}
use Rattle.std.proofs.lemmas.Bool.{true≢false}
use Rattle.std.specs.BTreeMap.{is_at}
use Rattle.std.specs.BTreeSet.{BTreeSet, contains, IsKeyInRange, IsKeyRangeOf}
use Rattle.std.specs.declared.ops.Bound.TheVariants.{Included, Unbounded}
use Rattle.std.specs.Option.{IfSome}
use Rattle.std.specs.BTreeMap.Range.{IsLeBy}
use Rattle.std.proofs.lemmas.Bool.Decides.{nat_tests}
use Rattle.tc_bag.specs.Pairs.{pair_cmp}

-- pairs of other second numbers differ
pub apart : (c a d b : ℕ) → a ≢ b → is_at (pair_cmp (c, a)) (d, b) ≡ false
apart c a d b other = grind (arith, nat_tests)

-- so do those of other first numbers
pub apart_first : (c a d b : ℕ) → c ≢ d → is_at (pair_cmp (c, a)) (d, b) ≡ false
apart_first c a d b other = grind (arith, nat_tests)

-- pairs that are one have one first number, and one second
pub same_first : (c a d b : ℕ) → is_at (pair_cmp (c, a)) (d, b) ≡ true → d ≡ c
same_first c a d b same = grind (arith, nat_tests)

pub same_second : (c a d b : ℕ) → is_at (pair_cmp (c, a)) (d, b) ≡ true → b ≡ a
same_second c a d b same = grind (arith, nat_tests)

-- a pair is itself
pub is_itself : (c a : ℕ) → is_at (pair_cmp (c, a)) (c, a) ≡ true
is_itself c a = grind (arith, nat_tests)

-- what is there once one more is there was there, or is that one
pub was_or_is : (same was : Bool) (P : Type 0) → (same ≡ true → P) → cond same true was ≡ true → (was ≡ true) ⊎ P
was_or_is true was P is has = inr (is refl)
was_or_is false was P is has = inl has

-- the one that is gone isn't there
pub is_gone : (same was : Bool) → same ≡ true → cond same false was ≡ false
is_gone true was is = refl
is_gone false was is = absurd (true≢false (sym is))

-- what is there once one is gone was there
pub was_there : (same was : Bool) → cond same false was ≡ true → was ≡ true
was_there true was has = absurd (true≢false (sym has))
was_there false was has = has

-- the order within a first number
pub within : (c a b : ℕ) → a ≤ b → IsLeBy pair_cmp (c, a) (c, b)
within c a b up = grind (arith, nat_tests)

pub within_back : (c a b : ℕ) → IsLeBy pair_cmp (c, a) (c, b) → a ≤ b
within_back c a b up = grind (arith, nat_tests)

-- what is between two pairs of a first number has that number
pub between : (c a d b e : ℕ) → IsLeBy pair_cmp (c, a) (d, b) → IsLeBy pair_cmp (d, b) (c, e) → c ≡ d
between c a d b e up down = grind (arith, nat_tests)

module _ (set : BTreeSet (ℕ × ℕ)) (c from : ℕ) (r rest : List (ℕ × ℕ)) (first : ℕ × ℕ) (split : r ≡ first ∷ rest)
    (range : IsKeyRangeOf pair_cmp (Included (c, from)) Unbounded set r) where
  -- the first pair of a range is not below its start
  pub range_start : IsLeBy pair_cmp (c, from) first
  range_start = (subst (λ s. IfSome (slice_get s 0) (IsKeyInRange pair_cmp (Included (c, from)) Unbounded set)) split range.1).0.0

  -- and not above any other
  pub range_least : (a : ℕ) → from ≤ a → IsTrue (contains pair_cmp set (c, a)) → IsLeBy pair_cmp first (c, a)
  range_least a up has =
      subst (λ s. IfSome (slice_get s 0) (λ k. IsLeBy pair_cmp k (c, a))) split (range.2 (c, a) (within c from a up, tt) has)
