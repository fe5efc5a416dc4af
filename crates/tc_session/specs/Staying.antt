-- Where a line leaves the log as it was.
use Rattle.std.specs.Prelude.{◌≡◌, ◌⊎◌, ℕ, List, false, Some, slice_get, Result, Ok, Err}
use Rattle.tc_desk.specs.Desks.{DeskState, HasNoTurnLeft, IsPendingRow}
use Rattle.tc_desk.specs.Logs.{any_pending}
use Rattle.tc_desk.specs.declared.rows.LogRow.{LogRow}
use Rattle.tc_lines.specs.declared.requests.BadLine.{BadLine}
use Rattle.tc_lines.specs.declared.requests.LineAsk.{LineAsk}
use Rattle.tc_lines.specs.declared.requests.LineAsk.TheVariants.{Call, Poll, Wait, Quit}

-- the log is as it was: no call is asked; or none is pending; or no turn is left to ask about it
abbrev pub LogStays : DeskState → Result LineAsk BadLine → DeskState → Type 0
LogStays d (Ok (Call centre asked)) e = ⊥
LogStays d (Ok Poll) e = (any_pending d.log ≡ false) ⊎ HasNoTurnLeft d
LogStays d (Ok Wait) e = (any_pending d.log ≡ false) ⊎ HasNoTurnLeft e
LogStays d (Ok Quit) e = Unit {0}
LogStays d (Err bad) e = Unit {0}

-- at most one row is pending, and no two centres have one name
pub record HasOneCall (d : DeskState) : Type 0 where
  pub one : (row other : LogRow)
      → IsPendingRow d.log row → IsPendingRow d.log other → row ≡ other
  pub named : (i j : ℕ) (name : List ℕ) → slice_get d.names i ≡ Some name
      → slice_get d.names j ≡ Some name → i ≡ j
