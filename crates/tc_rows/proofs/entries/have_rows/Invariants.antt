use Rattle.std.proofs.Common.{◌≡◌, ◌<◌, ℕ, List, Some, All, slice_get}
use Rattle.tc_config.specs.Configurations.{centre_names}
use Rattle.tc_desk.specs.Agreeing.{HasRow}
use Rattle.tc_model.specs.Calls.{calls_of}
use Rattle.tc_model.specs.declared.entries.Entry.{Entry}
use Rattle.tc_rows.specs.Rows.{logged}
use Rattle.tc_rows.proofs.entries.have_rows.Given as goal

-- what the agent made in the histories so far has its row
abbrev pub invariant-loop-place : goal.invariant-loop-place
invariant-loop-place l =
    (k : ℕ) (name : List ℕ) (history : List Entry) → k < l.place → slice_get (centre_names l.config) k ≡ Some name
    → slice_get l.histories k ≡ Some history → All (HasRow (logged l.rows) name) (calls_of l.agent history)
