-- Tests, and what they tell.
use Rattle.std.proofs.Common.{◌≡◌, ◌≢◌, ℕ, zero, suc, ◌==◌, ◌<◌, ◌≤◌, Bool, true, false, cond, List, ◌∷◌, length, bytes_eq, refl, sym, ◌∙◌, arith}
use Rattle.std.proofs.lemmas.Bool.{ne_eqb, both_ways, false_from_ne_true}
use Rattle.std.proofs.lemmas.Slice.Eq.{bytes_eq-Decides}

-- a list with an element isn't empty
pub length-none_false : {X : Type 0} (x : X) (xs : List X) → (length (x ∷ xs) == 0) ≡ false
length-none_false x xs = ne_eqb (length (x ∷ xs)) 0 (λ none. absurd (omega (arith, none)))

-- a test for none that fails
pub some_from_test : (n : ℕ) (none : Bool) → none ≡ (n == 0) → none ≡ false → 0 < n
some_from_test zero none is fails = absurd (cc)
some_from_test (suc n) none is fails = omega arith

-- and one that passes
pub none_from_test : (n : ℕ) (none : Bool) → none ≡ (n == 0) → none ≡ true → n ≡ 0
none_from_test zero none is holds = refl
none_from_test (suc n) none is holds =
    absurd (both_ways (suc n == 0) (ne_eqb (suc n) 0 (λ same. absurd (omega (arith, same)))) (sym is ∙ holds))

-- a test counts for one at most
pub cond-le_one : (b : Bool) → cond b 1 0 ≤ 1
cond-le_one true = omega arith
cond-le_one false = omega arith

-- texts that differ
pub bytes_eq-apart : (xs ys : List ℕ) → (xs ≡ ys → ⊥) → bytes_eq xs ys ≡ false
bytes_eq-apart xs ys apart = false_from_ne_true (bytes_eq xs ys) (λ same. apart ((bytes_eq-Decides xs ys).0 same))

pub bytes_eq-false : (xs ys : List ℕ) → bytes_eq xs ys ≡ false → xs ≢ ys
bytes_eq-false xs ys other same = both_ways (bytes_eq xs ys) other ((bytes_eq-Decides xs ys).1 same)
