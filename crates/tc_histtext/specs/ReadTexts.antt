-- Texts that are read back: their lines, and the first line at which other bytes are at fault.
use Rattle.std.specs.Prelude.{◌≡◌, ◌+◌, ℕ, List, [], ◌∷◌, ◌++◌, All, length, map, None}
use Rattle.std.specs.List.{flat_map}
use Rattle.tc_lists.specs.Texts.{joined}
use Rattle.tc_model.specs.declared.entries.Entry.{Entry}
use Rattle.tc_model.specs.declared.entries.Entry.TheVariants.{Called, Gave, Looked}
use Rattle.tc_desk.specs.declared.rows.LogRow.{LogRow}
use Rattle.tc_histline.specs.Lines.{HasLine, HasNoFeed}
use Rattle.tc_histline.specs.Text.{end_text, version_text}
use Rattle.tc_histline.specs.declared.lines.Line.{Line}
use Rattle.tc_histline.specs.declared.lines.Line.TheVariants.{First, Centre, Agent, Reaction, Row, End}
use Rattle.tc_histline.specs.declared.lines.Line.TheVariants as line
use Rattle.tc_histline.specs.declared.lines.TextRow.{TextRow}
use Rattle.tc_histtext.specs.Text.{histories_text, logs_text}
use Rattle.tc_histtext.specs.declared.read_texts.Text.{Text}

-- the lines of an entry: its own, and those of its reactions
abbrev pub entry_lines : Entry → List Line
entry_lines (Called id op result items) =
    line.Entry (Called id op result []) ∷ map Reaction items
entry_lines (Gave id result items) = line.Entry (Gave id result []) ∷ map Reaction items
entry_lines (Looked id asked told) = line.Entry (Looked id asked told) ∷ []

-- those of each centre's history, and of each agent's log, behind its heading
abbrev pub histories_lines : List (List ℕ) → List (List Entry) → List Line
histories_lines (n ∷ ns) (h ∷ hs) =
    Centre n ∷ (flat_map entry_lines h ++ histories_lines ns hs)
histories_lines ns hs = []

abbrev pub logs_lines : List (List ℕ) → List (List TextRow) → List Line
logs_lines (n ∷ ns) (l ∷ ls) = Agent n ∷ (map Row l ++ logs_lines ns ls)
logs_lines ns ls = []

-- the lines of a text of centres and agents of these names
abbrev pub lines_of : List (List ℕ) → List (List ℕ) → Text → List Line
lines_of centres agents t =
    First t.version ∷
    (histories_lines centres t.histories ++ (logs_lines agents t.logs ++ End t.blocked ∷ []))

-- the row as a log has it, of which a text doesn't tell the ask
abbrev pub as_logged : TextRow → LogRow
as_logged r = record { number = r.number; centre = r.centre; ask = None; result = r.result }

-- the text of histories, logs and an end, whatever they say
abbrev pub text_of : List (List ℕ) → List (List ℕ) → Text → List ℕ
text_of centres agents t =
    joined (
    version_text t.version ∷ histories_text agents centres t.histories ∷
    logs_text t.version agents (map (map as_logged) t.logs) ∷ end_text t.blocked ∷ [])

-- the bytes are the text of a history for each of these centres and a log for each of these
-- agents, each line of which may stand in a text of this version
pub record IsText (centres agents : List (List ℕ)) (t : Text) (bytes : List ℕ) : Type 0 where
  pub histories : length t.histories ≡ length centres
  pub logs : length t.logs ≡ length agents
  pub lines : All (HasLine t.version agents) (lines_of centres agents t)
  pub is : bytes ≡ text_of centres agents t

-- some text begins with these bytes
pub record IsBegun (centres agents : List (List ℕ)) (bytes : List ℕ) : Type 0 where
  pub text : Text
  pub rest : List ℕ
  pub is : IsText centres agents text (bytes ++ rest)

-- bytes up to the end of their line
abbrev pub ended : List ℕ → List ℕ
ended bytes = bytes ++ 10 ∷ []

-- the line of this number, counted from 1, is the first up to and with which the bytes begin no
-- text; where they end too early, it is the one behind their last
pub record IsFirstFault (centres agents : List (List ℕ)) (bytes : List ℕ) (number : ℕ)
    : Type 0 where
  pub lines : List (List ℕ)
  pub rest : List ℕ
  pub counted : number ≡ length lines + 1
  pub whole : All HasNoFeed lines
  pub split : bytes ≡ flat_map ended lines ++ rest
  pub begun : IsBegun centres agents (flat_map ended lines)
  pub faulty : (line more : List ℕ) → HasNoFeed line → rest ≡ ended line ++ more
      → IsBegun centres agents (flat_map ended lines ++ ended line) → ⊥
  pub unfinished : (t : Text) → IsText centres agents t bytes → ⊥
