-- Rows that a service may have left in an agent's log, as a text tells them, beside the histories.
use Rattle.std.specs.Prelude.{◌≡◌, ◌<◌, ◌+◌, ◌⊎◌, ℕ, List, Some, None, length, slice_get, take}
use Rattle.tc_model.specs.Calls.{call_of}
use Rattle.tc_model.specs.Replies.{reply_in}
use Rattle.tc_model.specs.State.{Origin}
use Rattle.tc_model.specs.declared.asks.Primitive.{Primitive}
use Rattle.tc_model.specs.declared.asks.Primitive.TheVariants as primitive
use Rattle.tc_model.specs.declared.calls.CallId.{CallId}
use Rattle.tc_model.specs.declared.calls.Op.{Op}
use Rattle.tc_model.specs.declared.calls.Op.TheVariants.{Out, In, Rd, Inp, Rdp, No, Nop}
use Rattle.tc_model.specs.declared.calls.Op.TheVariants.{SetSpec, GetSpec}
use Rattle.tc_model.specs.declared.entries.Entry.{Entry}
use Rattle.tc_desk.specs.Agreeing.{AgreesRefused, HasPolled, HaveRows, NamesCentre}
use Rattle.tc_desk.specs.Served.{HasCalled}
use Rattle.tc_desk.specs.declared.rows.LogRow.{LogRow}
use Rattle.tc_desk.specs.declared.rows.LogResult.{LogResult}
use Rattle.tc_desk.specs.declared.rows.LogResult.TheVariants.{Replied, Pending, Refused, Polled}
use Rattle.tc_desk.specs.declared.rows.Refusal.{Refusal}
use Rattle.tc_config.specs.Configurations.{Configuration, centre_names}
use Rattle.tc_config.specs.Good.{Permits, origin_of}
use Rattle.tc_config.specs.declared.configs.AgentConf.{AgentConf}
use Rattle.tc_config.specs.declared.configs.CentreConf.{CentreConf}
use Rattle.tc_histline.specs.declared.lines.TextRow.{TextRow}
use Rattle.tc_histline.specs.declared.versions.Version.{Version}
use Rattle.tc_histtext.specs.ReadTexts.{as_logged}
use Rattle.tc_rows.specs.Rows.{logged, told_refusal}

-- what has to be permitted for an operation
abbrev pub op_primitive : Op → Primitive
op_primitive (Out tuple) = primitive.Out
op_primitive (In template) = primitive.In
op_primitive (Rd template) = primitive.Rd
op_primitive (Inp template) = primitive.Inp
op_primitive (Rdp template) = primitive.Rdp
op_primitive (No template) = primitive.No
op_primitive (Nop template) = primitive.Nop
op_primitive (SetSpec clauses) = primitive.SetSpec
op_primitive GetSpec = primitive.GetSpec

-- the history has the call of this id, with an operation that is permitted
pub record IsPermittedCall (permits : Primitive → Type 0) (history : List Entry) (id : CallId)
    : Type 0 where
  pub op : Op
  pub called : HasCalled id op history
  pub permitted : permits (op_primitive op)

-- the text tells by this a refusal that agrees with the history
pub record IsToldRefusal (version : Version) (origin : Origin) (history : List Entry) (id : CallId)
    (why : Refusal) : Type 0 where
  pub whole : Refusal
  pub tells : told_refusal version whole ≡ why
  pub agrees : AgreesRefused origin history id whole

-- what a row behind the log tells of the ask of this id agrees with the history of its centre: the
-- call of one that was served stands there, was permitted, and has this reply, or none while it is
-- pending; a poll was told so. What else was asked, and why it was refused, a text doesn't show
abbrev pub AgreesTold : Version → (Primitive → Type 0) → Origin → List Entry → CallId
    → List LogRow → LogRow → LogResult → Type 0
AgreesTold version permits origin history id log row (Replied reply) =
    IsPermittedCall permits history id × (reply_in history id ≡ Some reply)
AgreesTold version permits origin history id log row Pending =
    IsPermittedCall permits history id × (reply_in history id ≡ None)
AgreesTold version permits origin history id log row (Refused why) =
    IsToldRefusal version origin history id why
AgreesTold version permits origin history id log row (Polled told) =
    HasPolled history id log (length log) row told

-- the row at place k, counted from 0, may stand there: it has its number, it names its centre, and
-- what it tells agrees with the history of that
pub record IsServedRow (version : Version) (c : Configuration) (histories : List (List Entry))
    (agent : ℕ) (a : AgentConf) (rows : List TextRow) (k : ℕ) (row : TextRow) : Type 0 where
  pub number : row.number ≡ k + 1
  pub known : NamesCentre (centre_names c) row.centre row.result
  pub agrees : (place : ℕ) (centre : CentreConf) (history : List Entry)
      → slice_get c.centres place ≡ Some centre → centre.name ≡ row.centre
      → slice_get histories place ≡ Some history
      → AgreesTold version (Permits c a.role place) (origin_of c centre) history
      (call_of agent (k + 1)) (logged (take k rows)) (as_logged row) row.result

-- every row may stand where it stands, and whatever the agent has made in the histories has its row
pub record AreServedRows (version : Version) (c : Configuration) (histories : List (List Entry))
    (agent : ℕ) (a : AgentConf) (rows : List TextRow) : Type 0 where
  pub rows_are : (k : ℕ) (row : TextRow) → slice_get rows k ≡ Some row
      → IsServedRow version c histories agent a rows k row
  pub calls : HaveRows (centre_names c) histories agent (logged rows)

-- the row of this number, counted from 1, may not stand there; behind the last row, an entry has no
-- row
abbrev pub IsUnserved : Version → Configuration → List (List Entry) → ℕ → AgentConf
    → List TextRow → ℕ → Type 0
IsUnserved version c histories agent a rows number =
    ((k : ℕ) × (row : TextRow) × (number ≡ k + 1) × (slice_get rows k ≡ Some row)
    × (IsServedRow version c histories agent a rows k row → ⊥))
    ⊎ ((number ≡ length rows + 1)
    × (HaveRows (centre_names c) histories agent (logged rows) → ⊥))

-- the row of this number is the first that may not
pub record IsFirstUnserved (version : Version) (c : Configuration)
    (histories : List (List Entry))
    (agent : ℕ) (a : AgentConf) (rows : List TextRow) (number : ℕ) : Type 0 where
  pub unserved : IsUnserved version c histories agent a rows number
  pub before : (k : ℕ) (row : TextRow) → k + 1 < number → slice_get rows k ≡ Some row
      → IsServedRow version c histories agent a rows k row

-- the pending rows of the log have no reply in the histories of their centres
abbrev pub AreUnanswered : List (List ℕ) → List (List Entry) → ℕ → List LogRow → Type 0
AreUnanswered names histories agent log =
    (k place : ℕ) (row : LogRow) (history : List Entry) → slice_get log k ≡ Some row
    → row.result ≡ Pending → slice_get names place ≡ Some row.centre
    → slice_get histories place ≡ Some history → reply_in history (call_of agent (k + 1)) ≡ None
