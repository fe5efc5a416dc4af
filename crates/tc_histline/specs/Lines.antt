-- Lines: the text of each, and which lines there are.
use Rattle.std.specs.Prelude.{◌≡◌, ◌≢◌, ◌<◌, ◌++◌, ◌∷◌, ℕ, List, [], All, drop, length}
use Rattle.tc_model.specs.Calls.{id_of}
use Rattle.tc_model.specs.Typed.{AreBytes, Is32, Is64, IsTyped}
use Rattle.tc_model.specs.declared.entries.Entry.{Entry}
use Rattle.tc_model.specs.declared.entries.Entry.TheVariants.{Called, Gave, Looked}
use Rattle.tc_desk.specs.Typed.{IsTypedResult}
use Rattle.tc_desk.specs.declared.rows.LogResult.{LogResult}
use Rattle.tc_desk.specs.declared.rows.LogResult.TheVariants.{Replied, Pending, Refused, Polled}
use Rattle.tc_desk.specs.declared.rows.Refusal.{Refusal}
use Rattle.tc_desk.specs.declared.rows.Refusal.TheVariants as refusal
use Rattle.tc_histline.specs.Items.{HasItemLine}
use Rattle.tc_histline.specs.Operations.{IsWrittenIn, written_op}
use Rattle.tc_histline.specs.Outcomes.{IsOutcomeIn, IsReplyIn, IsToldIn}
use Rattle.tc_histline.specs.Text.{agent_heading, centre_heading, end_text, entry_text, item_text}
use Rattle.tc_histline.specs.Text.{text_row_text, version_text}
use Rattle.tc_histline.specs.declared.lines.Line.{Line}
use Rattle.tc_histline.specs.declared.lines.Line.TheVariants as line
use Rattle.tc_histline.specs.declared.lines.TextRow.{TextRow}
use Rattle.tc_histline.specs.declared.versions.Version.{Version}
use Rattle.tc_histline.specs.declared.versions.Version.TheVariants.{One, Two}

-- the text of a line, with its end; an entry stands in its own without its reactions
abbrev pub line_text : Version → List (List ℕ) → Line → List ℕ
line_text v agents (line.First w) = version_text w
line_text v agents (line.Centre name) = centre_heading name
line_text v agents (line.Agent name) = agent_heading name
line_text v agents (line.Entry e) = entry_text agents e
line_text v agents (line.Reaction i) = item_text i
line_text v agents (line.Row r) = text_row_text v r
line_text v agents (line.End blocked) = end_text blocked

-- the entry has no reactions, and each part of it has a text in this version
abbrev pub IsEntryIn : Version → Entry → Type 0
IsEntryIn v (Called id op result items) =
    IsWrittenIn v (written_op op) × IsOutcomeIn v result × (items ≡ [])
IsEntryIn v (Gave id result items) = IsOutcomeIn v result × (items ≡ [])
IsEntryIn v (Looked id asked told) = IsToldIn v told

-- the numbers of a full centre, which the first version doesn't tell
abbrev pub AreLoadIn : Version → ℕ → ℕ → Type 0
AreLoadIn One weight pending = (weight ≡ 0) × (pending ≡ 0)
AreLoadIn Two weight pending = Is64 weight × Is64 pending

-- the refusal has a text in this version; want of memory has none
abbrev pub IsRefusalIn : Version → Refusal → Type 0
IsRefusalIn v refusal.UnknownCentre = Unit {0}
IsRefusalIn v refusal.Waiting = Unit {0}
IsRefusalIn v refusal.Denied = Unit {0}
IsRefusalIn v refusal.TooBig = Unit {0}
IsRefusalIn v refusal.NotGround = Unit {0}
IsRefusalIn v (refusal.BadSpec bad) = Is32 bad.clause
IsRefusalIn v refusal.TurnsSpent = Unit {0}
IsRefusalIn v (refusal.Full weight pending) = AreLoadIn v weight pending
IsRefusalIn v refusal.NoMemory = ⊥

-- the result has a text in this version
abbrev pub IsResultIn : Version → LogResult → Type 0
IsResultIn v (Replied reply) = IsReplyIn v reply
IsResultIn v Pending = Unit {0}
IsResultIn v (Refused why) = IsRefusalIn v why
IsResultIn v (Polled told) = IsToldIn v told

-- the entry has a line: it is what the program's types promise, of one of these agents
pub record HasEntryLine (v : Version) (agents : List (List ℕ)) (e : Entry) : Type 0 where
  pub typed : IsTyped e
  pub agent : (id_of e).agent < length agents
  pub written : IsEntryIn v e

-- the row has a line: it is what the program's types promise
pub record HasRowLine (v : Version) (row : TextRow) : Type 0 where
  pub number : Is64 row.number
  pub centre : AreBytes row.centre
  pub result : IsTypedResult row.result
  pub written : IsResultIn v row.result

-- the line is one of a text of this version and of these agents; the first line may tell another
-- version
abbrev pub HasLine : Version → List (List ℕ) → Line → Type 0
HasLine v agents (line.First w) = Unit {0}
HasLine v agents (line.Centre name) = AreBytes name
HasLine v agents (line.Agent name) = AreBytes name
HasLine v agents (line.Entry e) = HasEntryLine v agents e
HasLine v agents (line.Reaction i) = HasItemLine i
HasLine v agents (line.Row row) = HasRowLine v row
HasLine v agents (line.End blocked) = Unit {0}

-- no line feed stands there
abbrev pub HasNoFeed : List ℕ → Type 0
HasNoFeed bytes = All (λ b. b ≢ 10) bytes

-- the last byte is a line feed, and no other
pub record EndsOnce (bytes : List ℕ) : Type 0 where
  pub front : List ℕ
  pub clean : HasNoFeed front
  pub ends : bytes ≡ front ++ 10 ∷ []

-- the line stands at the front of the bytes, so many bytes long
pub record IsLineAt (v : Version) (agents : List (List ℕ)) (bytes : List ℕ) (l : Line) (size : ℕ)
    : Type 0 where
  pub has : HasLine v agents l
  pub whole : size ≡ length (line_text v agents l)
  pub stands : bytes ≡ line_text v agents l ++ drop size bytes
