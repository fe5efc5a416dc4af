use Rattle.std.proofs.Common.{◌≡◌, ◌<◌, ℕ, List, Some, slice_get}
use Rattle.tc_model.specs.declared.entries.Entry.{Entry}
use Rattle.tc_rows.specs.Sound.{HasStrayIn}
use Rattle.tc_rows.proofs.ends.has_stray.Given as goal

-- no history so far has a stray entry
abbrev pub invariant-loop-place : goal.invariant-loop-place
invariant-loop-place l =
    (k : ℕ) (history : List Entry) → k < l.place → slice_get l.histories k ≡ Some history → HasStrayIn history l.agent l.rows → ⊥
