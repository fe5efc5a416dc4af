-- Agents at their desks, and the rows of their scripts.
use Rattle.std.specs.Prelude.{◌≡◌, ℕ, ◌+◌, List, take, slice_get, Option, Some, IfSome}
use Rattle.tc_model.specs.Scripts.{Lines}
use Rattle.tc_model.specs.declared.asks.Ask.{Ask}
use Rattle.tc_asks.specs.Progress.{Progress, HasTakenIn}
use Rattle.tc_desk.specs.Asks.{ScriptStep, IsAsk}
use Rattle.tc_desk.specs.Desks.{DeskState}
use Rattle.tc_desk.specs.Logs.{results_of, PendsLast}
use Rattle.tc_desk.specs.declared.rows.LogRow.{LogRow}
use Rattle.tc_desk.specs.declared.rows.LogResult.{LogResult}
use Rattle.tc_desk.specs.declared.rows.LogResult.TheVariants.{Replied, Pending, Refused, Polled}
use Rattle.tc_desk.specs.declared.rows.Refusal.TheVariants as refusal

-- an agent, by its place among the agents, with its scripts, at its desk
pub record Client (D : Type 0) : Type 0 where
  pub desk : D
  pub agent : ℕ
  pub scripts : List Lines

-- what the ask of an item may have come to: it is never refused for want of a centre, of a turn or
-- of the reply to an earlier ask
abbrev pub IsItemResult : LogResult → Type 0
IsItemResult (Replied reply) = Unit {0}
IsItemResult Pending = Unit {0}
IsItemResult (Refused refusal.UnknownCentre) = ⊥
IsItemResult (Refused refusal.Waiting) = ⊥
IsItemResult (Refused refusal.Denied) = Unit {0}
IsItemResult (Refused refusal.TooBig) = Unit {0}
IsItemResult (Refused refusal.NotGround) = Unit {0}
IsItemResult (Refused (refusal.BadSpec bad)) = Unit {0}
IsItemResult (Refused refusal.TurnsSpent) = ⊥
IsItemResult (Refused (refusal.Full weight pending)) = Unit {0}
IsItemResult (Refused refusal.NoMemory) = ⊥
IsItemResult (Polled told) = ⊥

-- the row at place k is that of the item at this place: it has the item's number and centre, what
-- the item asks after the rows before, and what that may have come to
pub record IsItemRow (names : List (List ℕ)) (scripts : List Lines) (log : List LogRow) (k : ℕ)
    (row : LogRow) : Type 0 where
  pub number : row.number ≡ k + 1
  pub step : ScriptStep
  pub asked : Ask
  pub asks : IsAsk scripts k (take k (results_of log)) step asked
  pub ask : row.ask ≡ Some asked
  pub centre : slice_get names step.item.centre ≡ Some row.centre
  pub result : IsItemResult row.result

-- the rows are those of the scripts' first items, and only the last may be pending
pub record IsOfScripts (names : List (List ℕ)) (scripts : List Lines) (log : List LogRow)
    : Type 0 where
  pub rows : (k : ℕ) (row : LogRow) → slice_get log k ≡ Some row
      → IsItemRow names scripts log k row
  pub last : PendsLast log

-- the desk's rows are those of the scripts, and the asker, if there is one, fits them
pub record IsActor (desk : DeskState) (scripts : List Lines) (asker : Option Progress)
    : Type 0 where
  pub rows : IsOfScripts desk.names scripts desk.log
  pub taken : IfSome asker (HasTakenIn scripts desk.log)
