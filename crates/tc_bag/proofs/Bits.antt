-- Bits of masks.
use Rattle.std.proofs.Common.{◌≡◌, ◌≢◌, ℕ, zero, suc, ◌+◌, ◌-◌, ◌/◌, ◌%◌, ◌^◌, ◌<◌, ◌≤◌, inl, inr, ◌∙◌, ap, sym, arith, w16, bit_and, bit_or}
use Rattle.std.proofs.lemmas.Bool.{cases_lt}
use Rattle.std.proofs.lemmas.Nat.{trailing_le, shr-shr, shr_le}
use Rattle.std.proofs.lemmas.Nat.Bits.{bit_at-zero, bit_at-trailing_zeros, bit_at_above, bit_at_or, bit_at_and, bit_at_not, bit_at-lt, bit_at-pow_same, bit_at-pow_other}
use Rattle.std.specs.Int.{bit_at, trailing_zeros}

-- below the trailing zeros' end there is no bit
pub none_below : (mask i : ℕ) → mask < 2 ^ 16 → i < trailing_zeros w16 mask → bit_at mask i ≡ 0
none_below zero i fits below = bit_at-zero i
none_below (suc m) i fits below = (bit_at-trailing_zeros w16 (suc m) (omega arith) fits).2 i below

-- at most all are zeros
pub zeros_within : (mask : ℕ) → trailing_zeros w16 mask ≤ 16
zeros_within mask = trailing_le 16 mask

-- the bits of what is shifted
pub bit_at-shifted : (mask k i : ℕ) → bit_at (mask / 2 ^ k) i ≡ bit_at mask (k + i)
bit_at-shifted mask k i = ap (λ n. n % 2) (shr-shr mask k i)

-- where nothing is left of it there are none from there on
pub none_later : (mask k i : ℕ) → mask / 2 ^ k ≡ 0 → k ≤ i → bit_at mask i ≡ 0
none_later mask k i none up =
    let same : i ≡ k + (i - k) = omega (arith, up) in
    ap (bit_at mask) same ∙ sym (bit_at-shifted mask k (i - k)) ∙ ap (λ m. bit_at m (i - k)) none ∙ bit_at-zero (i - k)

-- the first bit from a place on is one of 16
pub later_within : (mask k : ℕ) → mask < 2 ^ 16 → mask / 2 ^ k ≢ 0 → k + trailing_zeros w16 (mask / 2 ^ k) < 16
later_within mask k fits some =
    let later : ℕ = mask / 2 ^ k in
    let less : later ≤ mask = shr_le mask k in
    let first = bit_at-trailing_zeros w16 later (omega (arith, some)) (omega (arith, less, fits)) in
    let place : ℕ = k + trailing_zeros w16 later in
    elim (cases_lt place 16) [
      | inl within ↦ within
      | inr above ↦ absurd (omega (arith, first.1, bit_at-shifted mask k (trailing_zeros w16 later), bit_at_above mask 16 place fits above))
    ]

-- a mask with one bit more
pub set_same : (mask k : ℕ) → bit_at (bit_or mask (2 ^ k)) k ≡ 1
set_same mask k = omega (arith, bit_at_or mask (2 ^ k) k, bit_at-pow_same k, bit_at-lt mask k)

pub set_kept : (mask k i : ℕ) → bit_at mask i ≡ 1 → bit_at (bit_or mask (2 ^ k)) i ≡ 1
set_kept mask k i has = omega (arith, bit_at_or mask (2 ^ k) i, bit_at-lt (2 ^ k) i, has)

-- and with one bit less
pub clear_other : (mask k i : ℕ) → 2 ^ k < 2 ^ 16 → i < 16 → i ≢ k → bit_at mask i ≡ 1
    → bit_at (bit_and mask (65535 - 2 ^ k)) i ≡ 1
clear_other mask k i fits within other has =
    omega (arith, bit_at_and mask (65535 - 2 ^ k) i, bit_at_not w16 (2 ^ k) i fits within, bit_at-pow_other k i other, has)
