-- When an agent's log agrees with the histories of the centres that it went to.
use Rattle.std.specs.Prelude.{◌≡◌, ℕ, ◌+◌, ◌<◌, true, List, ◌++◌, All}
use Rattle.std.specs.Prelude.{Contains, length, Option, Some, slice_get}
use Rattle.tc_model.specs.Calls.{call_of, id_of, calls_of}
use Rattle.tc_model.specs.Replies.{reply_in}
use Rattle.tc_model.specs.State.{Origin}
use Rattle.tc_model.specs.declared.asks.Ask.{Ask}
use Rattle.tc_model.specs.declared.calls.CallId.{CallId}
use Rattle.tc_model.specs.declared.calls.Op.{Op}
use Rattle.tc_model.specs.declared.entries.Entry.{Entry}
use Rattle.tc_model.specs.declared.entries.Entry.TheVariants.{Called, Gave, Looked}
use Rattle.tc_model.specs.declared.items.Item.{Item}
use Rattle.tc_model.specs.declared.outcomes.Outcome.TheVariants as outcome
use Rattle.tc_model.specs.declared.outcomes.Reply.{Reply}
use Rattle.tc_desk.specs.Logs.{is_served}
use Rattle.tc_desk.specs.Served.{IsServedAs, WasFull}
use Rattle.tc_desk.specs.declared.rows.LogRow.{LogRow}
use Rattle.tc_desk.specs.declared.rows.LogResult.{LogResult}
use Rattle.tc_desk.specs.declared.rows.LogResult.TheVariants.{Replied, Pending, Refused, Polled}
use Rattle.tc_desk.specs.declared.rows.Refusal.{Refusal}
use Rattle.tc_desk.specs.declared.rows.Refusal.TheVariants as refusal

-- the ask has come to this, by the history of its centre
pub record HasComeTo (origin : Origin) (history : List Entry) (id : CallId) (row : LogRow)
    (result : LogResult) : Type 0 where
  pub ask : Ask
  pub asked : row.ask ≡ Some ask
  pub served : IsServedAs origin history id ask result

-- the history has the request of this id, which had to wait
pub record HasWaited (history : List Entry) (id : CallId) : Type 0 where
  pub op : Op
  pub items : List Item
  pub stands : Contains history (Called id op outcome.Pending items)

-- the row is the last one before place k that was served
pub record IsLastServed (log : List LogRow) (k : ℕ) (row : LogRow) : Type 0 where
  pub place : ℕ
  pub before : place < k
  pub stands : slice_get log place ≡ Some row
  pub served : is_served row.result ≡ true
  pub last : (j : ℕ) (other : LogRow) → place < j → j < k → slice_get log j ≡ Some other
      → is_served other.result ≡ true → ⊥

-- the agent looked what had become of its last ask that was served, and was told this
pub record HasPolled (history : List Entry) (id : CallId) (log : List LogRow) (k : ℕ)
    (row : LogRow)
    (told : Option Reply) : Type 0 where
  pub earlier : LogRow
  pub last : IsLastServed log k earlier
  pub there : earlier.centre ≡ row.centre
  pub stands : Contains history (Looked id earlier.number told)

-- what a refusal of the agent's ask or poll of this id says of the history
abbrev pub AgreesRefused : Origin → List Entry → CallId → Refusal → Type 0
AgreesRefused origin history id (refusal.Full weight pending) =
    WasFull origin history id weight pending
AgreesRefused origin history id refusal.UnknownCentre = Unit {0}
AgreesRefused origin history id refusal.Waiting = Unit {0}
AgreesRefused origin history id refusal.Denied = Unit {0}
AgreesRefused origin history id refusal.TooBig = Unit {0}
AgreesRefused origin history id refusal.NotGround = Unit {0}
AgreesRefused origin history id (refusal.BadSpec bad) = Unit {0}
AgreesRefused origin history id refusal.TurnsSpent = Unit {0}
AgreesRefused origin history id refusal.NoMemory = ⊥

-- the row at place k of the log agrees with the history of its centre
abbrev pub AgreesRow :
    Origin → List Entry → CallId → List LogRow → ℕ → LogRow → LogResult → Type 0
AgreesRow origin history id log k row (Replied reply) =
    HasComeTo origin history id row (Replied reply)
AgreesRow origin history id log k row Pending =
    HasComeTo origin history id row Pending × HasWaited history id
AgreesRow origin history id log k row (Refused why) = AgreesRefused origin history id why
AgreesRow origin history id log k row (Polled told) = HasPolled history id log k row told

-- a call is of a row that was served, and a look of one that polled
abbrev pub IsMadeBy : Entry → LogResult → Type 0
IsMadeBy (Called id op result items) became = is_served became ≡ true
IsMadeBy (Looked id asked told) became = became ≡ Polled told
IsMadeBy (Gave id result items) became = ⊥

-- the entry, which the agent made at the centre of this name, has its row
pub record HasRow (log : List LogRow) (centre : List ℕ) (e : Entry) : Type 0 where
  pub k : ℕ
  pub counted : (id_of e).number ≡ k + 1
  pub row : LogRow
  pub stands : slice_get log k ≡ Some row
  pub there : row.centre ≡ centre
  pub made : IsMadeBy e row.result

-- where a row may stand that came to this: it names one of the centres, and one that was refused as
-- of an unknown centre names none
abbrev pub NamesCentre : List (List ℕ) → List ℕ → LogResult → Type 0
NamesCentre names centre (Replied reply) = Contains names centre
NamesCentre names centre Pending = Contains names centre
NamesCentre names centre (Refused refusal.UnknownCentre) = Contains names centre → ⊥
NamesCentre names centre (Refused refusal.Waiting) = Contains names centre
NamesCentre names centre (Refused refusal.Denied) = Contains names centre
NamesCentre names centre (Refused refusal.TooBig) = Contains names centre
NamesCentre names centre (Refused refusal.NotGround) = Contains names centre
NamesCentre names centre (Refused (refusal.BadSpec bad)) = Contains names centre
NamesCentre names centre (Refused refusal.TurnsSpent) = Contains names centre
NamesCentre names centre (Refused (refusal.Full weight pending)) = Contains names centre
NamesCentre names centre (Refused refusal.NoMemory) = Contains names centre
NamesCentre names centre (Polled told) = Contains names centre

-- an agent's log agrees with the histories of the centres of these names: the rows are numbered
-- from 1 on and name these centres, what each says is so, and whatever the agent has made there has
-- its row
pub record Agrees (origins : List Origin) (names : List (List ℕ)) (histories : List (List Entry))
    (agent : ℕ) (log : List LogRow) : Type 0 where
  pub numbers : (k : ℕ) (row : LogRow) → slice_get log k ≡ Some row → row.number ≡ k + 1
  pub known : (k : ℕ) (row : LogRow) → slice_get log k ≡ Some row
      → NamesCentre names row.centre row.result
  pub rows : (k place : ℕ) (row : LogRow) (origin : Origin) (history : List Entry)
      → slice_get log k ≡ Some row → slice_get names place ≡ Some row.centre
      → slice_get origins place ≡ Some origin → slice_get histories place ≡ Some history
      → AgreesRow origin history (call_of agent (k + 1)) log k row row.result
  pub calls : (place : ℕ) (centre : List ℕ) (history : List Entry)
      → slice_get names place ≡ Some centre → slice_get histories place ≡ Some history
      → All (HasRow log centre) (calls_of agent history)

-- the history has gone on, and whatever the agent has made since has a number above this one
pub record IsLonger (agent top : ℕ) (old new : List Entry) : Type 0 where
  pub more : List Entry
  pub grown : new ≡ old ++ more
  pub above : All (λ e. top < (id_of e).number) (calls_of agent more)

-- each history has gone on so
pub record AreLonger (agent top : ℕ) (olds news : List (List Entry)) : Type 0 where
  pub whole : length news ≡ length olds
  pub each : (place : ℕ) (old new : List Entry) → slice_get olds place ≡ Some old
      → slice_get news place ≡ Some new → IsLonger agent top old new

-- whatever the agent has made in the histories has its row
abbrev pub HaveRows : List (List ℕ) → List (List Entry) → ℕ → List LogRow → Type 0
HaveRows names histories agent log = (place : ℕ) (centre : List ℕ) (history : List Entry)
    → slice_get names place ≡ Some centre → slice_get histories place ≡ Some history
    → All (HasRow log centre) (calls_of agent history)

-- the row that comes behind the log names its centre, and agrees with the history of that
pub record IsNextRow (origins : List Origin) (names : List (List ℕ))
    (histories : List (List Entry))
    (agent : ℕ) (log : List LogRow) (row : LogRow) : Type 0 where
  pub counted : row.number ≡ length log + 1
  pub known : NamesCentre names row.centre row.result
  pub agrees : (place : ℕ) (origin : Origin) (history : List Entry)
      → slice_get names place ≡ Some row.centre → slice_get origins place ≡ Some origin
      → slice_get histories place ≡ Some history
      → AgreesRow origin history (call_of agent (length log + 1)) log (length log) row row.result

-- the pending row has this reply in the history of its centre
pub record HasReply (names : List (List ℕ)) (histories : List (List Entry)) (agent place : ℕ)
    (row : LogRow) (reply : Reply) : Type 0 where
  pub pending : row.result ≡ Pending
  pub told : (k : ℕ) (history : List Entry) → slice_get names k ≡ Some row.centre
      → slice_get histories k ≡ Some history
      → reply_in history (call_of agent (place + 1)) ≡ Some reply
