use Rattle.std.proofs.Common.{◌≡◌, ◌<◌, ℕ, false, ◌⊎◌, List, Some, slice_get}
use Rattle.tc_model.specs.declared.entries.Entry.{Entry}
use Rattle.tc_rows.specs.Made.{HasNoEntry}
use Rattle.tc_rows.proofs.row.is_alone.Given as goal

-- no history so far has an entry of the number, but for the own one
abbrev pub invariant-loop-place : goal.invariant-loop-place
invariant-loop-place l =
    (k : ℕ) (history : List Entry) → k < l.place → slice_get l.histories k ≡ Some history
    → (l.served ≡ false) ⊎ (k ≡ l.centre → ⊥) → HasNoEntry l.agent l.number history
