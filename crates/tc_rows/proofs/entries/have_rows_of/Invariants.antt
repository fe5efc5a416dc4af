use Rattle.std.proofs.Common.{◌≡◌, ◌<◌, ℕ, Some, slice_get}
use Rattle.tc_desk.specs.Agreeing.{HasRow}
use Rattle.tc_model.specs.declared.entries.Entry.{Entry}
use Rattle.tc_rows.specs.Rows.{logged}
use Rattle.tc_rows.specs.declared.made.Made.{Made}
use Rattle.tc_rows.proofs.entries.have_rows_of.Given as goal

-- the entries so far have their rows
abbrev pub invariant-loop-made : goal.invariant-loop-made
invariant-loop-made l =
    (k : ℕ) (m : Made) (e : Entry) → k < l.made-index → slice_get l.own k ≡ Some m
    → slice_get l.history m.place ≡ Some e → HasRow (logged l.rows) l.centre e
