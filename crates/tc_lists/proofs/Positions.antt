-- The place of the first element that passes a test.
use Rattle.std.proofs.Common.{◌≡◌, ℕ, ◌+◌, ◌<◌, Bool, true, false, cond, not, nat_lt, List, [], ◌∷◌, All, map, length, position, Some, None, refl, ap, arith}
use Rattle.std.specs.List.{position_or_len}
use Rattle.std.proofs.lemmas.Bool.Decides.{nat_tests}
use Rattle.std.proofs.lemmas.List.{length-map}
use Rattle.std.proofs.lemmas.List.Sums.{fails_before_first}

pub position_or_len-map : {X Y : Type 0} (f : X → Y) (p : Y → Bool) (xs : List X)
    → position_or_len p (map f xs) ≡ position_or_len (λ x. p (f x)) xs
position_or_len-map f p [] = refl
position_or_len-map f p (x ∷ xs) = by_test (p (f x)) (position_or_len-map f p xs)
  where
    by_test : (b : Bool) {m n : ℕ} → m ≡ n → cond (not b) (1 + m) 0 ≡ cond (not b) (1 + n) 0
    by_test b e = ap (λ n. cond (not b) (1 + n) 0) e

pub position-map : {X Y : Type 0} (f : X → Y) (p : Y → Bool) (xs : List X) → position p (map f xs) ≡ position (λ x. p (f x)) xs
position-map f p xs = let e = position_or_len-map f p xs in let n = length-map xs f in cc

pub position_within : {X : Type 0} (p : X → Bool) (xs : List X) (i : ℕ) → position p xs ≡ Some i → i < length xs
position_within p xs i e = grind (arith, nat_tests)

-- where none passes, each fails
pub position_none : {X : Type 0} (p : X → Bool) (xs : List X) → position p xs ≡ None → All (λ x. p x ≡ false) xs
position_none p xs none k d inside =
    fails_before_first p xs k d (by_test (nat_lt (position_or_len p xs) (length xs)) refl none)
  where
    by_test : (b : Bool) → nat_lt (position_or_len p xs) (length xs) ≡ b
        → cond b (Some (position_or_len p xs)) None ≡ None → k < position_or_len p xs
    by_test true is e = absurd (cc)
    by_test false is e = grind (arith, nat_tests)
