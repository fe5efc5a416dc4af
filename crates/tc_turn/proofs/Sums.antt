-- The counts that the rule adds up.
use Rattle.std.proofs.Common.{◌≡◌, ℕ, ◌+◌, ◌<◌, ◌≤◌, ◌≢◌, refl, ap, ◌∙◌, arith, cond, eq-eqb, ne_eqb, lt-ltb, Option, Some, lt_of_not-le}
use mathlib.Core.Logic.{dite}
use native.Mathlib.Decide.{ℕ_discrete, dec_le}
use Rattle.tc_turn.specs.Order.{one_if_same, one_if_below, one_if_in}

pub one_if_same-same : (n x : ℕ) → n ≡ x → one_if_same n x ≡ 1
one_if_same-same n x e = ap (λ b. cond b 1 0) (eq-eqb n x e)

pub one_if_same-other : (n x : ℕ) → n ≢ x → one_if_same n x ≡ 0
one_if_same-other n x ne = ap (λ b. cond b 1 0) (ne_eqb n x ne)

pub one_if_same-le : (n x : ℕ) → one_if_same n x ≤ 1
one_if_same-le n x = dite (ℕ_discrete n x) (λ e. omega (arith, one_if_same-same n x e)) (λ ne. omega (arith, one_if_same-other n x ne))

pub one_if_below-inside : (n x : ℕ) → x < n → one_if_below n x ≡ 1
one_if_below-inside n x lt = ap (λ b. cond b 1 0) (lt-ltb x n lt)

pub one_if_below-outside : (n x : ℕ) → n ≤ x → one_if_below n x ≡ 0
one_if_below-outside n x le = grind (arith, Rattle.std.proofs.lemmas.Bool.Decides.nat_tests)

-- the one more that is below n + 1 is n
pub one_if_below-more : (n x : ℕ) → one_if_below (n + 1) x ≡ one_if_below n x + one_if_same n x
one_if_below-more n x =
    dite (ℕ_discrete n x)
    (λ e. omega (arith, one_if_same-same n x e, one_if_below-inside (n + 1) x (omega arith), one_if_below-outside n x (omega arith)))
    (λ ne.
    dite (dec_le n x)
    (λ le. omega (arith, one_if_same-other n x ne, one_if_below-outside (n + 1) x (omega arith), one_if_below-outside n x le))
    (λ gt. let lt : x < n = lt_of_not-le gt in omega (arith, one_if_same-other n x ne, one_if_below-inside (n + 1) x (omega arith), one_if_below-inside n x lt)))

pub one_if_below-le : (n x : ℕ) → one_if_below n x ≤ 1
one_if_below-le n x = dite (dec_le n x) (λ le. omega (arith, one_if_below-outside n x le)) (λ gt. omega (arith, one_if_below-inside n x (lt_of_not-le gt)))

-- what counts as below n is below it
pub below_from_count : (n x : ℕ) → 0 < one_if_below n x → x < n
below_from_count n x some' = dite (dec_le n x) (λ le. absurd (omega (arith, one_if_below-outside n x le))) (λ gt. lt_of_not-le gt)

pub one_if_in-here : (x : ℕ) (o : Option ℕ) → o ≡ Some x → one_if_in x o ≡ 1
one_if_in-here x o e = ap (one_if_in x) e ∙ one_if_same-same x x refl
