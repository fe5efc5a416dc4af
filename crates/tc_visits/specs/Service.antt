-- A whole service: sessions over the connections of a door, and what they leave at the centres.
use Rattle.std.specs.Prelude.{◌≡◌, ◌≤◌, ◌<◌, ◌⊎◌, zero, suc, ℕ, Bool, true, false, not}
use Rattle.std.specs.Prelude.{List, [], ◌∷◌, All, length, map, Option, Some, slice_get}
use Rattle.std.specs.List.{list_any}
use Rattle.tc_config.specs.Configurations.{Configuration, centre_names}
use Rattle.tc_config.specs.Good.{Permits, origin_of}
use Rattle.tc_config.specs.declared.configs.AgentConf.{AgentConf}
use Rattle.tc_config.specs.declared.configs.CentreConf.{CentreConf}
use Rattle.tc_desk.specs.Agreeing.{Agrees}
use Rattle.tc_desk.specs.Decided.{IsDecided}
use Rattle.tc_desk.specs.declared.rows.LogRow.{LogRow}
use Rattle.tc_io.specs.Faults.{CountRises}
use Rattle.tc_io.specs.Links.{Connection}
use Rattle.tc_model.specs.declared.entries.Entry.{Entry}
use Rattle.tc_session.specs.declared.endings.SessionEnd.{SessionEnd}
use Rattle.tc_session.specs.declared.endings.SessionEnd.TheVariants as end
use Rattle.tc_shared.specs.Passes.{IsAtRest}
use Rattle.tc_site.specs.Settling.{IsSettled}
use Rattle.tc_visits.specs.Serving.{opened_all}
use Rattle.tc_visits.specs.Sessions.{IsSessionAt, SessionState}

-- a door: the connections that it has opened, where they are told, and how often a call of it has
-- failed
pub record DoorState : Type 0 where
  pub opened : Option (List Connection)
  pub faults : ℕ

-- what the object d is as a door, by what it has opened and how often a call of it has failed
abbrev pub door_of : {D : Type 0} → (D → Option (List Connection)) → (D → ℕ) → D → DoorState
door_of opened faults d = record { opened = opened d; faults = faults d }

-- the log that the session of the agent at this place has left; none, where it had no session
abbrev pub log_left : List SessionState → ℕ → List LogRow
log_left [] agent = []
log_left (s ∷ sessions) zero = s.log
log_left (s ∷ sessions) (suc agent) = log_left sessions agent

-- an agent's log at the end of a service: the one that its session has left, settled; it agrees
-- with the histories, and what no grant permits is denied in it, and nothing else
pub record IsServedLog (c : Configuration) (histories : List (List Entry)) (agent : ℕ)
    (a : AgentConf) (left log : List LogRow) : Type 0 where
  pub settled : IsSettled (centre_names c) histories agent left log
  pub agrees : Agrees (map (origin_of c) c.centres) (centre_names c) histories agent log
  pub decided : IsDecided (Permits c a.role) (centre_names c) log

-- histories and logs of a service of the configuration's agents, of which the first had these
-- sessions: each centre's history is at rest, a run of first choices from what the centre begins
-- with
pub record IsService (c : Configuration) (sessions : List SessionState)
    (histories : List (List Entry)) (logs : List (List LogRow)) : Type 0 where
  pub whole : length histories ≡ length c.centres
  pub runs : (place : ℕ) (centre : CentreConf) (history : List Entry)
      → slice_get c.centres place ≡ Some centre → slice_get histories place ≡ Some history
      → IsAtRest (origin_of c centre) history
  pub few : length sessions ≤ length c.agents
  pub were : All (IsSessionAt (centre_names c)) sessions
  pub each : length logs ≡ length c.agents
  pub logs_are : (agent : ℕ) (a : AgentConf) (log : List LogRow)
      → slice_get c.agents agent ≡ Some a → slice_get logs agent ≡ Some log
      → IsServedLog c histories agent a (log_left sessions agent) log

-- each of so many agents had a session, and no call of the door has failed; or some had none, and
-- one has
abbrev pub HaveSessions : Bool → ℕ → ℕ → DoorState → DoorState → Type 0
HaveSessions true sessions agents door after =
    (sessions ≡ agents) × (after.faults ≡ door.faults)
HaveSessions false sessions agents door after =
    (sessions < agents) × CountRises door.faults after.faults

-- a door was used for so many agents: meanwhile it has opened a connection for each, and no call of
-- it has failed; or fewer, and one has
pub record UsesDoor (agents : ℕ) (door after : DoorState) : Type 0 where
  pub connections : List Connection
  pub opened : after.opened ≡ opened_all door.opened connections
  pub all : Bool
  pub all_are : HaveSessions all (length connections) agents door after

-- a door is as it was, or it was used for so many agents
abbrev pub MayUseDoor : ℕ → DoorState → DoorState → Type 0
MayUseDoor agents door after = (after ≡ door) ⊎ UsesDoor agents door after

-- the session has ended for want of memory
abbrev pub lacked_memory : SessionEnd → Bool
lacked_memory end.Quit = false
lacked_memory end.EndOfInput = false
lacked_memory end.ReadFault = false
lacked_memory end.WriteFault = false
lacked_memory end.LineTooLong = false
lacked_memory end.NoMemory = true

-- a service over the connections that a door has opened meanwhile: whether each agent had one, and
-- whether each session found memory to its end
pub record IsServiceBy (door after : DoorState) (all enough : Bool) (c : Configuration)
    (histories : List (List Entry)) (logs : List (List LogRow)) : Type 0 where
  pub sessions : List SessionState
  pub service : IsService c sessions histories logs
  pub opened : after.opened
      ≡ opened_all door.opened (map (λ (s : SessionState). s.connection) sessions)
  pub all_are : HaveSessions all (length sessions) (length c.agents) door after
  pub enough_is : enough ≡ not (list_any (λ (s : SessionState). lacked_memory s.end) sessions)
