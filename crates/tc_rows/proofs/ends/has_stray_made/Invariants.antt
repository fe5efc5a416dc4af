use Rattle.std.proofs.Common.{◌≡◌, ◌<◌, ◌⊎◌, ℕ, Some, slice_get}
use Rattle.tc_rows.specs.declared.made.Made.{Made}
use Rattle.tc_rows.proofs.ends.has_stray_made.Given as goal

-- no entry so far is stray
abbrev pub invariant-loop-one : goal.invariant-loop-one
invariant-loop-one l =
    (k : ℕ) (m : Made) → k < l.one-index → slice_get l.made k ≡ Some m → (m.number ≡ 0) ⊎ (l.rows < m.number) → ⊥
