-- Logs that are settled: each pending row has the reply that its request has got by now.
use Rattle.std.specs.Prelude.{◌≡◌, ◌≢◌, ◌+◌, ◌^◌, ◌<◌, ◌≤◌, ℕ, List, AllPairs, length, Option, Some}
use Rattle.std.specs.Prelude.{None, slice_get}
use Rattle.tc_centre.specs.Centre.{Centre}
use Rattle.tc_desk.specs.Desks.{replied}
use Rattle.tc_desk.specs.declared.rows.LogResult.TheVariants.{Pending}
use Rattle.tc_desk.specs.declared.rows.LogRow.{LogRow}
use Rattle.tc_model.specs.Calls.{call_of}
use Rattle.tc_model.specs.Replies.{reply_in}
use Rattle.tc_model.specs.declared.calls.CallId.{CallId}
use Rattle.tc_model.specs.declared.entries.Entry.{Entry}
use Rattle.tc_model.specs.declared.outcomes.Reply.{Reply}

-- each of the cores has a name of its own
pub record AreNamed (names : List (List ℕ)) (cores : List Centre) : Type 0 where
  pub whole : length names ≡ length cores
  pub differ : AllPairs ◌≢◌ names
  pub few : length cores < 2 ^ 32

-- the row at this place is pending, and no other one is
pub record PendsAlone (log : List LogRow) (place : ℕ) : Type 0 where
  pub row : LogRow
  pub stands : slice_get log place ≡ Some row
  pub pending : row.result ≡ Pending
  pub alone : (k : ℕ) (other : LogRow) → slice_get log k ≡ Some other → other.result ≡ Pending
      → k ≡ place

-- the row with the reply that its request has got, if it has got one
abbrev pub settled_by : Option Reply → LogRow → LogRow
settled_by None row = row
settled_by (Some reply) row = replied row reply

-- the row, as it is settled: one that is pending has the reply that the history of its centre
-- gives, and is as it was where that gives none; and so is every other row
pub record IsSettledRow (names : List (List ℕ)) (histories : List (List Entry)) (id : CallId)
    (old new : LogRow) : Type 0 where
  pub waits : (place : ℕ) (history : List Entry) → old.result ≡ Pending
      → slice_get names place ≡ Some old.centre → slice_get histories place ≡ Some history
      → new ≡ settled_by (reply_in history id) old
  pub others : (old.result ≡ Pending → ⊥) → new ≡ old

-- an agent's log, settled
pub record IsSettled (names : List (List ℕ)) (histories : List (List Entry)) (agent : ℕ)
    (old new : List LogRow) : Type 0 where
  pub whole : length new ≡ length old
  pub each : (k : ℕ) (row now : LogRow) → slice_get old k ≡ Some row
      → slice_get new k ≡ Some now
      → IsSettledRow names histories (call_of agent (k + 1)) row now

-- each agent's log, settled
pub record AreSettled (names : List (List ℕ)) (histories : List (List Entry))
    (olds news : List (List LogRow)) : Type 0 where
  pub whole : length news ≡ length olds
  pub each : (agent : ℕ) (old new : List LogRow) → slice_get olds agent ≡ Some old
      → slice_get news agent ≡ Some new → IsSettled names histories agent old new

-- the logs of the first agents are settled, and each other one is as it was
pub record AreSettledBelow (names : List (List ℕ)) (histories : List (List Entry))
    (olds news : List (List LogRow)) : Type 0 where
  pub agents : ℕ
  pub whole : length news ≡ length olds
  pub first : (agent : ℕ) (old new : List LogRow) → agent < agents
      → slice_get olds agent ≡ Some old → slice_get news agent ≡ Some new
      → IsSettled names histories agent old new
  pub others : (agent : ℕ) (old new : List LogRow) → agents ≤ agent
      → slice_get olds agent ≡ Some old → slice_get news agent ≡ Some new → new ≡ old
