-- What stands open: so many last items, and the innermost frame.
use Rattle.std.proofs.Common.{◌≡◌, ◌<◌, ◌-◌, ◌++◌, ℕ, zero, suc, List, [], ◌∷◌, length, reverse, slice_index_or, slice_set, refl, sym, ap, ◌∙◌, arith}
use Rattle.std.proofs.lemmas.List.{reverse-append}
use Rattle.tc_read.specs.Frames.{below, top, tops, under}
use Rattle.tc_read.specs.Kept.{Kept, finished, kept, parts}
use Rattle.tc_read.specs.Machine.{applied, turned}

one_less : (n : ℕ) → 0 < n → n ≡ suc (n - 1)
one_less n h = omega arith

pub tops-some : (n : ℕ) (ks : List Kept) → 0 < n → tops n ks ≡ top ks ∷ tops (n - 1) (below ks)
tops-some n ks h = ap (λ m. tops m ks) (one_less n h)

pub under-some : (n : ℕ) (ks : List Kept) → 0 < n → under n ks ≡ under (n - 1) (below ks)
under-some n ks h = ap (λ m. under m ks) (one_less n h)

-- arguments that are all read, one of them at least
pub applied-turned : (name : List ℕ) (done ks : List Kept) (k : Kept) → applied kept name (turned done (k ∷ ks)) ≡ finished name (parts (turned done (k ∷ ks)))
applied-turned name [] ks k = refl
applied-turned name (d ∷ done) ks k = applied-turned name done (k ∷ ks) d

-- the last element, turned round, before and behind a change
pub reverse-set_last : {X : Type 0} (xs : List X) (i : ℕ) (x y : X) → suc i ≡ length xs → x ≡ slice_index_or xs i x
    → (ys : List X) × (reverse xs ≡ x ∷ ys) × (reverse (slice_set xs i y) ≡ y ∷ ys)
reverse-set_last [] i x y n e = absurd (omega (arith, n))
reverse-set_last (a ∷ []) zero x y n e = ([], ap (λ z. z ∷ []) (sym e), refl)
reverse-set_last (a ∷ []) (suc i) x y n e = absurd (omega (arith, n))
reverse-set_last (a ∷ b ∷ xs) zero x y n e = absurd (omega (arith, n))
reverse-set_last (a ∷ b ∷ xs) (suc i) x y n e =
    let r = reverse-set_last (b ∷ xs) i x y (omega (arith, n)) e in (
      r.0 ++ a ∷ [],
      reverse-append (a ∷ []) (b ∷ xs) ∙ ap (λ l. l ++ a ∷ []) r.1,
      reverse-append (a ∷ []) (slice_set (b ∷ xs) i y) ∙ ap (λ l. l ++ a ∷ []) r.2,
    )
