-- An agent's rows, as a text tells them, beside the histories of its centres.
use Rattle.std.specs.Prelude.{◌≡◌, ◌≢◌, ◌<◌, ◌+◌, ◌⊎◌, ℕ, false, List, All, Contains}
use Rattle.std.specs.Prelude.{length, map, slice_get, Some, None}
use Rattle.tc_model.specs.Calls.{call_of, calls_of, id_of}
use Rattle.tc_model.specs.Replies.{reply_in}
use Rattle.tc_model.specs.declared.entries.Entry.{Entry}
use Rattle.tc_model.specs.declared.entries.Entry.TheVariants.{Called, Gave, Looked}
use Rattle.tc_desk.specs.Asks.{steps_of}
use Rattle.tc_desk.specs.Logs.{any_pending, is_served}
use Rattle.tc_desk.specs.declared.rows.LogRow.{LogRow}
use Rattle.tc_desk.specs.declared.rows.LogResult.{LogResult}
use Rattle.tc_desk.specs.declared.rows.LogResult.TheVariants.{Replied, Pending, Refused, Polled}
use Rattle.tc_desk.specs.declared.rows.Refusal.{Refusal}
use Rattle.tc_desk.specs.declared.rows.Refusal.TheVariants as refusal
use Rattle.tc_config.specs.Configurations.{Configuration}
use Rattle.tc_config.specs.Good.{IsRow, origin_of}
use Rattle.tc_config.specs.declared.configs.AgentConf.{AgentConf}
use Rattle.tc_config.specs.declared.configs.CentreConf.{CentreConf}
use Rattle.tc_histline.specs.declared.lines.TextRow.{TextRow}
use Rattle.tc_histline.specs.declared.versions.Version.{Version}
use Rattle.tc_histline.specs.declared.versions.Version.TheVariants.{One}
use Rattle.tc_histtext.specs.ReadTexts.{as_logged}
use Rattle.tc_replay.specs.Bad.{IsQuietRun}

-- the rows as a log has them
abbrev pub logged : List TextRow → List LogRow
logged rows = map as_logged rows

-- why an ask was refused, as a text tells it: the first version doesn't tell how full a centre was
abbrev pub told_refusal : Version → Refusal → Refusal
told_refusal One (refusal.Full weight pending) = refusal.Full 0 0
told_refusal version why = why

-- what a text tells of a result
abbrev pub told : Version → LogResult → LogResult
told version (Replied reply) = Replied reply
told version Pending = Pending
told version (Refused why) = Refused (told_refusal version why)
told version (Polled reply) = Polled reply

-- the row of a text that tells this row of a log
abbrev pub told_row : Version → LogRow → TextRow
told_row version row =
    record { number = row.number; centre = row.centre; result = told version row.result }

-- the agent has made no entry of this number in the history
abbrev pub HasNone : ℕ → ℕ → List Entry → Type 0
HasNone agent number history = All (λ e. (id_of e).number ≢ number) (calls_of agent history)

-- the entry is no look of the agent's with this number
abbrev pub IsNoLookOf : ℕ → ℕ → Entry → Type 0
IsNoLookOf agent number (Called id op result items) = Unit {0}
IsNoLookOf agent number (Gave id result items) = Unit {0}
IsNoLookOf agent number (Looked id asked reply) = id ≢ call_of agent number

-- the row at place k, counted from 0, is sound: the text tells by it a row that the agent's item at
-- this place may have come to; no other history has an entry of its number, and where it wasn't
-- served none has; no history has a look of its number; only the last may be pending, and only
-- where the history of its centre has no reply
pub record IsSoundRow (version : Version) (c : Configuration) (histories : List (List Entry))
    (agent : ℕ) (a : AgentConf) (rows : List TextRow) (k : ℕ) (row : TextRow) : Type 0 where
  pub whole : LogRow
  pub tells : told_row version whole ≡ row
  pub is : IsRow c histories agent a (logged rows) k whole
  pub alone : (place : ℕ) (history : List Entry) → slice_get histories place ≡ Some history
      → (is_served row.result ≡ false) ⊎ (place ≢ is.step.item.centre)
      → HasNone agent (k + 1) history
  pub looks : (place : ℕ) (history : List Entry) → slice_get histories place ≡ Some history
      → All (IsNoLookOf agent (k + 1)) history
  pub last : row.result ≡ Pending → k + 1 ≡ length rows
  pub waits : row.result ≡ Pending → reply_in is.history (call_of agent (k + 1)) ≡ None

-- the agent has made an entry in some history that is numbered 0 or beyond its rows
pub record HasStrayEntry (histories : List (List Entry)) (agent : ℕ) (rows : List TextRow)
    : Type 0 where
  pub history : List Entry
  pub stands : Contains histories history
  pub entry : Entry
  pub made : Contains (calls_of agent history) entry
  pub stray : ((id_of entry).number ≡ 0) ⊎ (length rows < (id_of entry).number)

-- what is wrong behind the last row: an item is left though none is pending, there are more rows
-- than items, or an entry has no row
abbrev pub IsWrongEnd : List (List Entry) → ℕ → AgentConf → List TextRow → Type 0
IsWrongEnd histories agent a rows =
    ((any_pending (logged rows) ≡ false) × (length rows < length (steps_of a.scripts)))
    ⊎ ((length (steps_of a.scripts) < length rows) ⊎ HasStrayEntry histories agent rows)

-- every row is sound, and so is the end behind them
pub record AreSound (version : Version) (c : Configuration) (histories : List (List Entry))
    (agent : ℕ) (a : AgentConf) (rows : List TextRow) : Type 0 where
  pub rows_are : (k : ℕ) (row : TextRow) → slice_get rows k ≡ Some row
      → IsSoundRow version c histories agent a rows k row
  pub end : IsWrongEnd histories agent a rows → ⊥

-- the row of this number, counted from 1, isn't sound; behind the last row, the end is wrong
abbrev pub IsFaulty : Version → Configuration → List (List Entry) → ℕ → AgentConf
    → List TextRow → ℕ → Type 0
IsFaulty version c histories agent a rows number =
    ((k : ℕ) × (row : TextRow) × (number ≡ k + 1) × (slice_get rows k ≡ Some row)
    × (IsSoundRow version c histories agent a rows k row → ⊥))
    ⊎ ((number ≡ length rows + 1) × IsWrongEnd histories agent a rows)

-- the row of this number is the first that is at fault
pub record IsFirstFaulty (version : Version) (c : Configuration) (histories : List (List Entry))
    (agent : ℕ) (a : AgentConf) (rows : List TextRow) (number : ℕ) : Type 0 where
  pub faulty : IsFaulty version c histories agent a rows number
  pub before : (k : ℕ) (row : TextRow) → k + 1 < number → slice_get rows k ≡ Some row
      → IsSoundRow version c histories agent a rows k row

-- each history is that of a run of its centre to a quiet state
pub record AreQuietRuns (c : Configuration) (histories : List (List Entry)) : Type 0 where
  pub whole : length histories ≡ length c.centres
  pub each : (place : ℕ) (centre : CentreConf) (history : List Entry)
      → slice_get c.centres place ≡ Some centre → slice_get histories place ≡ Some history
      → IsQuietRun (origin_of c centre) history
