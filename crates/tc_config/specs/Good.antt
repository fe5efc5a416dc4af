-- Histories and logs that a configuration may have led to.
use Rattle.std.specs.Prelude.{◌≡◌, ℕ, ◌+◌, true, false, List, All, Contains}
use Rattle.std.specs.Prelude.{length, take, slice_get, Some, None}
use Rattle.tc_model.specs.Asks.{primitive_of}
use Rattle.tc_model.specs.Calls.{call_of, id_of, calls_of}
use Rattle.tc_model.specs.Choices.{Choice}
use Rattle.tc_model.specs.Replies.{reply_in}
use Rattle.tc_model.specs.Run.{IsRunBy}
use Rattle.tc_model.specs.State.{Origin, IsQuiescent, origin_from, opening, after_history}
use Rattle.tc_model.specs.declared.asks.Ask.{Ask}
use Rattle.tc_model.specs.declared.asks.Primitive.{Primitive}
use Rattle.tc_model.specs.declared.entries.Entry.{Entry}
use Rattle.tc_model.specs.declared.entries.Entry.TheVariants.{Called, Gave, Looked}
use Rattle.tc_desk.specs.Asks.{ScriptStep, steps_of, IsAsk}
use Rattle.tc_desk.specs.Logs.{any_pending, is_served, results_of, PendsLast}
use Rattle.tc_desk.specs.Served.{IsResult}
use Rattle.tc_desk.specs.declared.rows.LogRow.{LogRow}
use Rattle.tc_desk.specs.declared.rows.LogResult.TheVariants.{Pending}
use Rattle.tc_policy.specs.Places.{grant}
use Rattle.tc_config.specs.Configurations.{Configuration, agent_names}
use Rattle.tc_config.specs.declared.configs.AgentConf.{AgentConf}
use Rattle.tc_config.specs.declared.configs.CentreConf.{CentreConf}

-- what a centre of the configuration begins with
abbrev pub origin_of : Configuration → CentreConf → Origin
origin_of c centre =
    origin_from centre.name (agent_names c) centre.budget centre.tuples centre.clauses

-- a grant permits agents of the role to use the primitive on the centre
abbrev pub Permits : Configuration → ℕ → ℕ → Primitive → Type 0
Permits c role centre primitive = Contains c.roles (grant role centre primitive)

-- the entry is no look at an earlier call
abbrev pub IsNoLook : Entry → Type 0
IsNoLook (Called id op result items) = Unit {0}
IsNoLook (Gave id result items) = Unit {0}
IsNoLook (Looked id asked reply) = ⊥

-- the history is a run from what the centre begins with, without looks, and no
-- request that waits at its end could be answered
pub record IsHistory (choice : Choice) (origin : Origin) (history : List Entry) : Type 0 where
  pub run : IsRunBy choice origin history
  pub quiescent : IsQuiescent (after_history (opening origin) history)
  pub looks : All IsNoLook history

-- each centre has its history
pub record AreHistories (choice : Choice) (c : Configuration) (histories : List (List Entry))
    : Type 0 where
  pub whole : length histories ≡ length c.centres
  pub each : (place : ℕ) (centre : CentreConf) (history : List Entry)
      → slice_get c.centres place ≡ Some centre
      → slice_get histories place ≡ Some history
      → IsHistory choice (origin_of c centre) history

-- the row at place k is that of the agent's item at this place: it has the item's number, centre
-- and ask, as this is after the rows before, and a result that the ask may have come to there
pub record IsRow (c : Configuration) (histories : List (List Entry)) (agent : ℕ) (a : AgentConf)
    (log : List LogRow) (k : ℕ) (row : LogRow) : Type 0 where
  pub number : row.number ≡ k + 1
  pub step : ScriptStep
  pub asked : Ask
  pub asks : IsAsk a.scripts k (take k (results_of log)) step asked
  pub ask : row.ask ≡ Some asked
  pub centre : CentreConf
  pub known : slice_get c.centres step.item.centre ≡ Some centre
  pub named : row.centre ≡ centre.name
  pub history : List Entry
  pub there : slice_get histories step.item.centre ≡ Some history
  pub result : IsResult (Permits c a.role step.item.centre (primitive_of asked))
      (origin_of c centre) history (call_of agent (k + 1)) asked row.result

-- the number is that of a row whose ask was served, at the centre of this place
pub record IsServedNumber (a : AgentConf) (log : List LogRow) (place number : ℕ) : Type 0 where
  pub k : ℕ
  pub counted : number ≡ k + 1
  pub row : LogRow
  pub stands : slice_get log k ≡ Some row
  pub served : is_served row.result ≡ true
  pub step : ScriptStep
  pub item : slice_get (steps_of a.scripts) k ≡ Some step
  pub there : step.item.centre ≡ place

-- an agent's log so far: its rows are those of its first items, only the last may be pending, and
-- whatever the agent has made in a history is there for one of its rows
pub record Follows (c : Configuration) (histories : List (List Entry)) (agent : ℕ) (a : AgentConf)
    (log : List LogRow) : Type 0 where
  pub rows : (k : ℕ) (row : LogRow) → slice_get log k ≡ Some row
      → IsRow c histories agent a log k row
  pub last : PendsLast log
  pub calls : (place : ℕ) (history : List Entry) → slice_get histories place ≡ Some history
      → All (λ e. IsServedNumber a log place (id_of e).number) (calls_of agent history)

-- each agent has its log
pub record AllFollow (c : Configuration) (histories : List (List Entry)) (logs : List (List LogRow))
    : Type 0 where
  pub whole : length logs ≡ length c.agents
  pub each : (agent : ℕ) (a : AgentConf) (log : List LogRow)
      → slice_get c.agents agent ≡ Some a → slice_get logs agent ≡ Some log
      → Follows c histories agent a log

-- nothing is left for the agent to do: a row that is pending has no reply in the history of its
-- centre, and where none is pending each item has its row
pub record IsEnded (histories : List (List Entry)) (agent : ℕ) (a : AgentConf) (log : List LogRow)
    : Type 0 where
  pub waits : (k : ℕ) (row : LogRow) (step : ScriptStep) (history : List Entry)
      → slice_get log k ≡ Some row → row.result ≡ Pending
      → slice_get (steps_of a.scripts) k ≡ Some step
      → slice_get histories step.item.centre ≡ Some history
      → reply_in history (call_of agent (k + 1)) ≡ None
  pub complete : any_pending log ≡ false → length log ≡ length (steps_of a.scripts)

-- histories and logs of a run of the configuration that may go on
pub record IsGoing (choice : Choice) (c : Configuration) (histories : List (List Entry))
    (logs : List (List LogRow)) : Type 0 where
  pub runs : AreHistories choice c histories
  pub follow : AllFollow c histories logs

-- histories and logs of a run of the configuration, in which each agent went on
-- until its scripts ended or its ask waits
pub record IsGood (choice : Choice) (c : Configuration) (histories : List (List Entry))
    (logs : List (List LogRow)) : Type 0 where
  pub going : IsGoing choice c histories logs
  pub ended : (agent : ℕ) (a : AgentConf) (log : List LogRow)
      → slice_get c.agents agent ≡ Some a → slice_get logs agent ≡ Some log
      → IsEnded histories agent a log
