-- What is known of an agent that has come so far in its scripts.
use Rattle.std.specs.Prelude.{◌≡◌, ℕ, ◌+◌, ◌-◌, ◌*◌, ◌≤◌, false, if◌then◌else◌, List, [], ◌∷◌, ◌++◌}
use Rattle.std.specs.Prelude.{length}
use Rattle.std.specs.Prelude.{Option, Some, None, slice_get}
use Rattle.tc_asks.specs.Progress.{HasTakenIn}
use Rattle.tc_config.specs.declared.configs.AgentConf.{AgentConf}
use Rattle.tc_desk.specs.Asks.{ScriptStep, steps_of}
use Rattle.tc_desk.specs.Logs.{any_pending, PendsLast}
use Rattle.tc_desk.specs.declared.rows.LogRow.{LogRow}
use Rattle.tc_desk.specs.declared.rows.LogResult.{LogResult}
use Rattle.tc_desk.specs.declared.rows.LogResult.TheVariants.{Replied, Pending, Refused, Polled}
use Rattle.tc_model.specs.Scripts.{Lines}
use Rattle.tc_runner.specs.declared.clients.Client.{Client}

-- the last row alone is pending, and its ask went to the centre at this place
pub record IsWaiting (scripts : List Lines) (log : List LogRow) (place : ℕ) : Type 0 where
  pub front : List LogRow
  pub row : LogRow
  pub last : log ≡ front ++ row ∷ []
  pub pending : row.result ≡ Pending
  pub settled : any_pending front ≡ false
  pub step : ScriptStep
  pub item : slice_get (steps_of scripts) (length front) ≡ Some step
  pub there : step.item.centre ≡ place

-- only the last row may be pending, and each row is one of an item
pub record IsLog (scripts : List Lines) (log : List LogRow) : Type 0 where
  pub last : PendsLast log
  pub within : length log ≤ length (steps_of scripts)

-- where the agent waits, if it does
abbrev pub WaitsAt : List Lines → List LogRow → Option ℕ → Type 0
WaitsAt scripts log None = any_pending log ≡ false
WaitsAt scripts log (Some place) = IsWaiting scripts log place

-- the client is this agent's: it knows where the agent waits, and its asker fits the log
pub record IsClient (agent : ℕ) (scripts : List Lines) (log : List LogRow) (client : Client)
    : Type 0 where
  pub agent_is : client.agent ≡ agent
  pub taken : HasTakenIn scripts log client.asker
  pub waits : WaitsAt scripts log client.waits

-- each agent has its client
pub record AreClients (agents : List AgentConf) (logs : List (List LogRow)) (clients : List Client)
    : Type 0 where
  pub whole : length clients ≡ length agents
  pub each : (k : ℕ) (a : AgentConf) (log : List LogRow) (client : Client)
      → slice_get agents k ≡ Some a → slice_get logs k ≡ Some log
      → slice_get clients k ≡ Some client
      → IsClient k a.scripts log client

-- how many steps are left at most: two for each item without a row, and one where the last row is
-- pending
abbrev pub left_of : AgentConf → List LogRow → ℕ
left_of a log = 2 * (length (steps_of a.scripts) - length log) + (if any_pending log then 1 else 0)

abbrev pub left_in : List AgentConf → List (List LogRow) → ℕ
left_in (a ∷ agents) (log ∷ logs) = left_of a log + left_in agents logs
left_in agents logs = 0

-- where the agent waits, whose ask has come to this at the centre of this place
abbrev pub waits_of : LogResult → ℕ → Option ℕ
waits_of (Replied reply) place = None
waits_of Pending place = Some place
waits_of (Refused why) place = None
waits_of (Polled reply) place = None
