-- What one step of an agent does.
use Rattle.std.specs.Prelude.{◌≡◌, ℕ, ◌<◌, ◌⊎◌, Bool, true, false, List, []}
use Rattle.std.specs.Prelude.{◌∷◌, ◌++◌, Option, Some, None, set, slice_get}
use Rattle.tc_centre.specs.Centre.{Centre}
use Rattle.tc_config.specs.Configurations.{Configuration}
use Rattle.tc_model.specs.Calls.{call_of}
use Rattle.tc_config.specs.Good.{AreHistories, Follows, IsEnded}
use Rattle.tc_config.specs.declared.configs.AgentConf.{AgentConf}
use Rattle.tc_desk.specs.declared.rows.LogRow.{LogRow}
use Rattle.tc_desk.specs.declared.rows.LogResult.TheVariants.{Replied}
use Rattle.tc_model.specs.Choices.{TheFirst}
use Rattle.tc_model.specs.Scripts.{Lines}
use Rattle.tc_model.specs.declared.outcomes.Reply.{Reply}
use Rattle.tc_runner.specs.Clients.{WaitsAt, left_of}
use Rattle.tc_runner.specs.Cores.{AreCores, histories}
use Rattle.tc_runner.specs.Results.{HasServed}

-- the run may go on, as far as one agent is concerned: its log follows its scripts
pub record GoesOn (c : Configuration) (agent : ℕ) (a : AgentConf) (cores : List Centre)
    (log : List LogRow) : Type 0 where
  pub stands : slice_get c.agents agent ≡ Some a
  pub are : AreCores c cores
  pub runs : AreHistories TheFirst c (histories c cores)
  pub follows : Follows c (histories c cores) agent a log

-- a call of the agent was served at one centre, and nothing else was changed
pub record ServesAt (agent : ℕ) (old new : List Centre) : Type 0 where
  pub number : ℕ
  pub place : ℕ
  pub before : Centre
  pub after : Centre
  pub stands : slice_get old place ≡ Some before
  pub served : HasServed (call_of agent number) before after
  pub changed : new ≡ set old place after

-- at most one call of the agent was served
abbrev pub Touches : ℕ → List Centre → List Centre → Type 0
Touches agent old new = (new ≡ old) ⊎ ServesAt agent old new

-- the log has one row more, and the agent waits here, if it does
pub record HasAsked (scripts : List Lines) (old new : List LogRow) (waits : Option ℕ) : Type 0 where
  pub row : LogRow
  pub pushed : new ≡ old ++ row ∷ []
  pub waits_at : WaitsAt scripts new waits

-- the last row, which was pending, has this reply
pub record IsLastAnswered (reply : Reply) (old new : List LogRow) : Type 0 where
  pub front : List LogRow
  pub row : LogRow
  pub last : old ≡ front ++ row ∷ []
  pub now : new ≡ front ++ record row { result = Replied reply } ∷ []

-- the reply is put into the log, if there is one
abbrev pub Looks : Option Reply → List LogRow → List LogRow → Bool → Type 0
Looks (Some reply) old new true = IsLastAnswered reply old new
Looks None old new false = new ≡ old
Looks reply old new answered = ⊥

-- less is left after the step; or else nothing has changed, and nothing is left to do now
abbrev pub Moves : Configuration → ℕ → AgentConf → (old new : List Centre)
    → (log log' : List LogRow) → Bool → Type 0
Moves c agent a old new log log' true = left_of a log' < left_of a log
Moves c agent a old new log log' false =
    (new ≡ old) × (log' ≡ log) × IsEnded (histories c new) agent a log'
