-- What an agent asks next.
use Rattle.std.specs.Prelude.{◌≡◌, List, length}
use Rattle.tc_model.specs.Scripts.{Lines}
use Rattle.tc_desk.specs.Asks.{ScriptStep, IsAsk}
use Rattle.tc_desk.specs.Logs.{results_of}
use Rattle.tc_desk.specs.declared.rows.LogRow.{LogRow}
use Rattle.tc_asks.specs.declared.next.Next.{Next}

-- it is the ask of the first item that has no row, and goes to the item's centre
pub record IsNextAsk (scripts : List Lines) (log : List LogRow) (next : Next) : Type 0 where
  pub step : ScriptStep
  pub asks : IsAsk scripts (length log) (results_of log) step next.ask
  pub centre : next.centre ≡ step.item.centre
