-- Counts of faults.
use Rattle.std.specs.Prelude.{ℕ, ◌+◌, ◌^◌, ◌<◌, ◌≤◌, ◌⊎◌, ◌≡◌}

-- the count rises, or stands at its end
abbrev pub CountRises : ℕ → ℕ → Type 0
CountRises old new = (old < new) ⊎ ((old ≤ new) × (2 ^ 64 ≤ new + 1))

-- a failure makes the count rise, and nothing else changes it
pub record Counts (failure : Type 0) (old new : ℕ) : Type 0 where
  pub failed : failure → CountRises old new
  pub unfailed : (failure → ⊥) → new ≡ old
