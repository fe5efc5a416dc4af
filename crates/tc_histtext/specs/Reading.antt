-- A text while it is read, line by line.
use Rattle.std.specs.Prelude.{◌≡◌, ◌<◌, ◌≤◌, ℕ, Bool, true, false, List, [], ◌∷◌, ◌++◌, length, drop, map, None, Some}
use Rattle.std.specs.Str.{bytes_eq}
use Rattle.tc_model.specs.declared.entries.Entry.{Entry}
use Rattle.tc_model.specs.declared.entries.Entry.TheVariants.{Called, Gave, Looked}
use Rattle.tc_model.specs.declared.items.Item.{Item}
use Rattle.tc_histline.specs.Lines.{HasLine, IsLineAt, line_text}
use Rattle.tc_histline.specs.declared.versions.Version.{Version}
use Rattle.tc_histtext.specs.Machine.{Stage, next}
use Rattle.tc_histtext.specs.Machine as stage
use Rattle.tc_histtext.specs.ReadTexts.{entry_lines, histories_lines, lines_of, logs_lines}
use Rattle.tc_histline.specs.declared.lines.Line.{Line}
use Rattle.tc_histline.specs.declared.lines.Line.TheVariants.{First, Reaction, End}
use Rattle.tc_histline.specs.declared.lines.TextRow.{TextRow}
use Rattle.tc_histtext.specs.declared.reading.Place.{Place}
use Rattle.tc_histtext.specs.declared.reading.Place.TheVariants.{Start, Before, Within, Reacting, Telling, Done}
use Rattle.tc_histtext.specs.declared.reading.Reading.{Reading}
use Rattle.tc_histtext.specs.declared.read_texts.Text.{Text}

-- the stage of this place, where these centres and agents have no heading yet
abbrev pub stage_at : Place → List (List ℕ) → List (List ℕ) → Stage
stage_at Start centres agents = stage.Start
stage_at Before centres agents = stage.Before centres
stage_at Within centres agents = stage.Within centres
stage_at Reacting centres agents = stage.Reacting centres
stage_at Telling centres agents = stage.Telling agents
stage_at Done centres agents = stage.Done

-- the stage behind so many histories and logs
abbrev pub stage_behind : Place
    → List (List ℕ) → List (List ℕ) → List (List Entry) → List (List TextRow) → Stage
stage_behind place centres agents hs ls =
    stage_at place (drop (length hs) centres) (drop (length ls) agents)

abbrev pub stage_of : List (List ℕ) → List (List ℕ) → Reading → Stage
stage_of centres agents r = stage_behind r.place centres agents r.histories.items r.logs.items

-- the first line and the last, where they have come
abbrev pub first_lines : Place → Version → List Line
first_lines Start v = []
first_lines Before v = First v ∷ []
first_lines Within v = First v ∷ []
first_lines Reacting v = First v ∷ []
first_lines Telling v = First v ∷ []
first_lines Done v = First v ∷ []

abbrev pub last_lines : Place → Bool → List Line
last_lines Start b = []
last_lines Before b = []
last_lines Within b = []
last_lines Reacting b = []
last_lines Telling b = []
last_lines Done b = End b ∷ []

-- the lines so far; behind the last entry stand reactions that it doesn't have yet
abbrev pub lines_so_far : List (List ℕ) → List (List ℕ) → Reading → List Line
lines_so_far centres agents r =
    (first_lines r.place r.version ++
    (histories_lines centres r.histories.items ++
    (logs_lines agents r.logs.items ++ last_lines r.place r.blocked))) ++
    map Reaction r.items.items

-- reactions may stand behind the entry
abbrev pub Reacts : Entry → Type 0
Reacts (Called id op result items) = Unit {0}
Reacts (Gave id result items) = Unit {0}
Reacts (Looked id asked told) = ⊥

-- reactions may stand behind the last entry of the last history
pub record MayReact (histories : List (List Entry)) : Type 0 where
  pub before : List (List Entry)
  pub entries : List Entry
  pub last : Entry
  pub is : histories ≡ before ++ (entries ++ last ∷ []) ∷ []
  pub reacts : Reacts last

-- what the place says of the histories and logs so far
abbrev pub IsAt : Place
    → List (List ℕ) → List (List ℕ) → List (List Entry) → List (List TextRow) → Type 0
IsAt Start centres agents hs ls = (hs ≡ []) × (ls ≡ [])
IsAt Before centres agents hs ls = (hs ≡ []) × (ls ≡ [])
IsAt Within centres agents hs ls = (0 < length hs) × (length hs ≤ length centres) × (ls ≡ [])
IsAt Reacting centres agents hs ls = MayReact hs × (length hs ≤ length centres) × (ls ≡ [])
IsAt Telling centres agents hs ls =
    (length hs ≡ length centres) × (0 < length ls) × (length ls ≤ length agents)
IsAt Done centres agents hs ls = (length hs ≡ length centres) × (length ls ≡ length agents)

-- there are such reactions behind an entry that may have them alone
abbrev pub IsHeld : Place → List Item → Type 0
IsHeld Start items = items ≡ []
IsHeld Before items = items ≡ []
IsHeld Within items = items ≡ []
IsHeld Reacting items = Unit {0}
IsHeld Telling items = items ≡ []
IsHeld Done items = items ≡ []

abbrev pub IsSound : List (List ℕ) → List (List ℕ) → Reading → Type 0
IsSound centres agents r =
    IsAt r.place centres agents r.histories.items r.logs.items × IsHeld r.place r.items.items

-- the last entry has all of its reactions, and nothing else is new
pub record Settles (centres agents : List (List ℕ)) (old new : Reading) : Type 0 where
  pub stage : stage_of centres agents new ≡ stage_of centres agents old
  pub lines : lines_so_far centres agents new ≡ lines_so_far centres agents old
  pub sound : IsSound centres agents new
  pub none : new.items.items ≡ []

-- the line came, and goes behind the others
pub record GoesOn (centres agents : List (List ℕ)) (old : Reading) (line : Line) (new : Reading)
    : Type 0 where
  pub next : next centres agents (stage_of centres agents old) line
      ≡ Some (stage_of centres agents new)
  pub lines : lines_so_far centres agents new ≡ lines_so_far centres agents old ++ line ∷ []
  pub sound : IsSound centres agents new

-- the line was taken, or may not come
abbrev pub Answers : List (List ℕ) → List (List ℕ) → Reading → Line → Bool → Reading → Type 0
Answers centres agents old line true new = GoesOn centres agents old line new
Answers centres agents old line false new =
    next centres agents (stage_of centres agents old) line ≡ None

-- a line stands at the front, so many bytes long, and came
pub record Comes (centres agents : List (List ℕ)) (old : Reading) (bytes : List ℕ) (size : ℕ)
    (new : Reading) : Type 0 where
  pub line : Line
  pub stands : IsLineAt old.version agents bytes line size
  pub on : GoesOn centres agents old line new

-- no line that stands at the front may come
abbrev pub IsStuck : List (List ℕ) → List (List ℕ) → Reading → List ℕ → Type 0
IsStuck centres agents r bytes =
    (line : Line) (rest : List ℕ) → HasLine r.version agents line
    → bytes ≡ line_text r.version agents line ++ rest
    → next centres agents (stage_of centres agents r) line ≡ None

-- the place is in a history, or where the first may begin
abbrev pub is_in_histories : Place → Bool
is_in_histories Start = false
is_in_histories Before = true
is_in_histories Within = true
is_in_histories Reacting = true
is_in_histories Telling = false
is_in_histories Done = false

-- the place is in a history
abbrev pub is_in_history : Place → Bool
is_in_history Start = false
is_in_history Before = false
is_in_history Within = true
is_in_history Reacting = true
is_in_history Telling = false
is_in_history Done = false

-- no history is left, so logs may come
abbrev pub may_tell : Place → Bool → Bool
may_tell Start whole = false
may_tell Before whole = whole
may_tell Within whole = whole
may_tell Reacting whole = whole
may_tell Telling whole = true
may_tell Done whole = false

-- the place behind the line of an entry
abbrev pub place_behind : Entry → Place
place_behind (Called id op result items) = Reacting
place_behind (Gave id result items) = Reacting
place_behind (Looked id asked told) = Within

-- the name is the next one
abbrev pub is_next : List (List ℕ) → List ℕ → Bool
is_next [] name = false
is_next (n ∷ ns) name = bytes_eq name n

-- a thing was put behind those of the last list
pub record PutLast {X : Type 0} (old : List (List X)) (x : X) (new : List (List X)) : Type 0 where
  pub before : List (List X)
  pub last : List X
  pub was : old ≡ before ++ last ∷ []
  pub is : new ≡ before ++ (last ++ x ∷ []) ∷ []

-- reactions were put behind those of the entry
pub record PutReactions (old : Entry) (items : List Item) (new : Entry) : Type 0 where
  pub lines : entry_lines new ≡ entry_lines old ++ map Reaction items
  pub reacts : Reacts new

-- reactions were put behind those of the last entry of the last history
pub record PutLastReactions (old : List (List Entry)) (items : List Item)
    (new : List (List Entry)) : Type 0 where
  pub before : List (List Entry)
  pub entries : List Entry
  pub last : Entry
  pub grown : Entry
  pub was : old ≡ before ++ (entries ++ last ∷ []) ∷ []
  pub is : new ≡ before ++ (entries ++ grown ∷ []) ∷ []
  pub put : PutReactions last items grown

-- the text has the lines so far, a history for each centre and a log for each agent
pub record IsWhole (centres agents : List (List ℕ)) (r : Reading) (t : Text) : Type 0 where
  pub version : t.version ≡ r.version
  pub lines : lines_of centres agents t ≡ lines_so_far centres agents r
  pub histories : length t.histories ≡ length centres
  pub logs : length t.logs ≡ length agents
