-- How lines follow one another: a machine that takes them one by one.
use Rattle.std.specs.Prelude.{◌≡◌, ℕ, Bool, if◌then◌else◌, List, [], ◌∷◌, ◌++◌, map, length}
use Rattle.std.specs.Prelude.{Some, None}
use Rattle.std.specs.declared.option.Option.{Option}
use Rattle.std.specs.List.{flat_map}
use Rattle.std.specs.Str.{bytes_eq}
use Rattle.tc_model.specs.declared.entries.Entry.{Entry}
use Rattle.tc_model.specs.declared.entries.Entry.TheVariants.{Called, Gave, Looked}
use Rattle.tc_model.specs.declared.items.Item.{Item}
use Rattle.tc_histline.specs.declared.versions.Version.{Version}
use Rattle.tc_histtext.specs.ReadTexts.{entry_lines, histories_lines, logs_lines}
use Rattle.tc_histline.specs.declared.lines.Line.{Line}
use Rattle.tc_histline.specs.declared.lines.Line.TheVariants.{First, Centre, Agent, Reaction, Row, End}
use Rattle.tc_histline.specs.declared.lines.Line.TheVariants as line
use Rattle.tc_histline.specs.declared.lines.TextRow.{TextRow}

-- how far lines have come, and which headings are left: before the first line; behind it; in a
-- history; behind an entry that may have reactions; in a log; behind the last line
pub data Stage : Type 0 where
  Start : Stage
  Before : List (List ℕ) → Stage
  Within : List (List ℕ) → Stage
  Reacting : List (List ℕ) → Stage
  Telling : List (List ℕ) → Stage
  Done : Stage

abbrev pub if_same : List ℕ → List ℕ → Stage → Option Stage
if_same n m stage = if bytes_eq n m then Some stage else None

-- a heading is that of the next name
abbrev pub centre_head : List (List ℕ) → List ℕ → Option Stage
centre_head [] n = None
centre_head (m ∷ ms) n = if_same n m (Within ms)

abbrev pub agent_head : List (List ℕ) → List ℕ → Option Stage
agent_head [] n = None
agent_head (m ∷ ms) n = if_same n m (Telling ms)

abbrev pub where_none_is_left : List (List ℕ) → Option Stage → Option Stage
where_none_is_left [] stage = stage
where_none_is_left (m ∷ ms) stage = None

-- behind the line of an entry
abbrev pub after_entry : List (List ℕ) → Entry → Stage
after_entry left (Called id op result items) = Reacting left
after_entry left (Gave id result items) = Reacting left
after_entry left (Looked id asked told) = Within left

-- no reactions come with an entry
abbrev pub IsBareEntry : Entry → Type 0
IsBareEntry (Called id op result items) = items ≡ []
IsBareEntry (Gave id result items) = items ≡ []
IsBareEntry (Looked id asked told) = Unit {0}

abbrev pub IsBare : Line → Type 0
IsBare (line.Entry e) = IsBareEntry e
IsBare (First v) = Unit {0}
IsBare (Centre n) = Unit {0}
IsBare (Agent n) = Unit {0}
IsBare (Reaction i) = Unit {0}
IsBare (Row r) = Unit {0}
IsBare (End b) = Unit {0}

abbrev pub AreBare : List Line → Type 0
AreBare [] = Unit {0}
AreBare (l ∷ ls) = IsBare l × AreBare ls

module _ (centres agents : List (List ℕ)) where
  abbrev pub at_start : Line → Option Stage
  at_start (First v) = Some (Before centres)
  at_start (Centre n) = None
  at_start (Agent n) = None
  at_start (line.Entry e) = None
  at_start (Reaction i) = None
  at_start (Row r) = None
  at_start (End b) = None

  -- where a heading or the end is due
  abbrev pub heading : List (List ℕ) → Line → Option Stage
  heading left (Centre n) = centre_head left n
  heading left (Agent n) = where_none_is_left left (agent_head agents n)
  heading left (End b) = where_none_is_left left (where_none_is_left agents (Some Done))
  heading left (First v) = None
  heading left (line.Entry e) = None
  heading left (Reaction i) = None
  heading left (Row r) = None

  abbrev pub in_history : List (List ℕ) → Line → Option Stage
  in_history left (line.Entry e) = Some (after_entry left e)
  in_history left (Centre n) = heading left (Centre n)
  in_history left (Agent n) = heading left (Agent n)
  in_history left (End b) = heading left (End b)
  in_history left (First v) = None
  in_history left (Reaction i) = None
  in_history left (Row r) = None

  abbrev pub behind_entry : List (List ℕ) → Line → Option Stage
  behind_entry left (Reaction i) = Some (Reacting left)
  behind_entry left (line.Entry e) = in_history left (line.Entry e)
  behind_entry left (Centre n) = in_history left (Centre n)
  behind_entry left (Agent n) = in_history left (Agent n)
  behind_entry left (End b) = in_history left (End b)
  behind_entry left (First v) = None
  behind_entry left (Row r) = None

  abbrev pub in_log : List (List ℕ) → Line → Option Stage
  in_log left (Row r) = Some (Telling left)
  in_log left (Agent n) = agent_head left n
  in_log left (End b) = where_none_is_left left (Some Done)
  in_log left (First v) = None
  in_log left (Centre n) = None
  in_log left (line.Entry e) = None
  in_log left (Reaction i) = None

  -- where a line leads, if it may come
  abbrev pub next : Stage → Line → Option Stage
  next Start l = at_start l
  next (Before left) l = heading left l
  next (Within left) l = in_history left l
  next (Reacting left) l = behind_entry left l
  next (Telling left) l = in_log left l
  next Done l = None

  abbrev pub go_on : Option Stage → (Stage → Option Stage) → Option Stage
  go_on None f = None
  go_on (Some s) f = f s

  -- where lines lead, one after another
  abbrev pub takes : Stage → List Line → Option Stage
  takes s [] = Some s
  takes s (l ∷ ls) = go_on (next s l) (λ t. takes t ls)

  -- logs that are left, of these agents, and the end
  pub record AreLogs (left : List (List ℕ)) (ls : List Line) : Type 0 where
    pub logs : List (List TextRow)
    pub end : Bool
    pub whole : length logs ≡ length left
    pub lines : ls ≡ logs_lines left logs ++ End end ∷ []

  -- histories that are left, of these centres, and then all logs
  pub record AreHistories (left : List (List ℕ)) (ls : List Line) : Type 0 where
    pub histories : List (List Entry)
    pub whole : length histories ≡ length left
    pub rest : List Line
    pub logs : AreLogs agents rest
    pub lines : ls ≡ histories_lines left histories ++ rest

  pub record AreEntries (left : List (List ℕ)) (ls : List Line) : Type 0 where
    pub entries : List Entry
    pub rest : List Line
    pub histories : AreHistories left rest
    pub lines : ls ≡ flat_map entry_lines entries ++ rest

  pub record AreReactions (left : List (List ℕ)) (ls : List Line) : Type 0 where
    pub items : List Item
    pub rest : List Line
    pub entries : AreEntries left rest
    pub lines : ls ≡ map Reaction items ++ rest

  pub record AreRows (left : List (List ℕ)) (ls : List Line) : Type 0 where
    pub rows : List TextRow
    pub rest : List Line
    pub logs : AreLogs left rest
    pub lines : ls ≡ map Row rows ++ rest

  pub record AreAll (ls : List Line) : Type 0 where
    pub version : Version
    pub rest : List Line
    pub histories : AreHistories centres rest
    pub lines : ls ≡ First version ∷ rest

  -- what a text has from this stage on
  abbrev pub Rest : Stage → List Line → Type 0
  Rest Start ls = AreAll ls
  Rest (Before left) ls = AreHistories left ls
  Rest (Within left) ls = AreEntries left ls
  Rest (Reacting left) ls = AreReactions left ls
  Rest (Telling left) ls = AreRows left ls
  Rest Done ls = ls ≡ []
