-- How far an agent has come in its scripts, as far as an asker knows.
use Rattle.std.specs.Prelude.{◌≡◌, ◌≤◌, ℕ, false, All, List, length, take, Option}
use Rattle.tc_term.specs.Equations.{Equations}
use Rattle.tc_model.specs.Scripts.{Lines}
use Rattle.tc_desk.specs.Asks.{steps_of, equations}
use Rattle.tc_desk.specs.Logs.{is_pending, results_of}
use Rattle.tc_desk.specs.declared.rows.LogRow.{LogRow}
use Rattle.tc_asks.specs.Bindings.{AreKnown}
use Rattle.tc_asks.specs.Places.{IsPlaced, script_at}

-- what an asker keeps: how many rows of the log it has taken in, which script the next item stands
-- in, behind how many items of it, and what is known of the script's variables
pub record Progress : Type 0 where
  pub rows : ℕ
  pub script : ℕ
  pub item : ℕ
  pub known : Option Equations

-- the asker has taken in the first rows of the log, none of them pending, and knows what they say
-- of the script in which the next item stands
pub record HasTakenIn (scripts : List Lines) (log : List LogRow) (p : Progress) : Type 0 where
  pub rows : p.rows ≤ length log
  pub settled : All (λ row. is_pending row.result ≡ false) (take p.rows log)
  pub placed : IsPlaced scripts p.script p.item p.rows
  pub known :
      AreKnown (script_at scripts p.script).vars
      (equations p.script (take p.rows (steps_of scripts)) (results_of log)) p.known
