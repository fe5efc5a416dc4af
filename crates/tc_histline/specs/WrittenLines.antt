-- Lines at the front of bytes, as they are written.
use Rattle.std.specs.Prelude.{◌≡◌, ◌<◌, ◌∷◌, ℕ, true, false, List, [], codes, length}
use Rattle.tc_lists.specs.AtFront.{Front, between, made, or_else, word_for}
use Rattle.tc_lists.specs.Texts.{joined}
use Rattle.tc_model.specs.Typed.{Is32, Is64}
use Rattle.tc_model.specs.declared.calls.CallId.{CallId}
use Rattle.tc_model.specs.declared.entries.Entry.{Entry}
use Rattle.tc_model.specs.declared.entries.Entry.TheVariants.{Called, Gave, Looked}
use Rattle.tc_histline.specs.Entries.{called, entry_at}
use Rattle.tc_histline.specs.Items.{HasItemLine, item_at}
use Rattle.tc_histline.specs.Lines.{IsResultIn, line_text}
use Rattle.tc_histline.specs.Operations.{IsWrittenIn, written_op, written_text}
use Rattle.tc_histline.specs.Outcomes.{IsOutcomeIn, IsToldIn}
use Rattle.tc_histline.specs.Rows.{row_at}
use Rattle.tc_histline.specs.Text.{call_text, outcome_text}
use Rattle.tc_histline.specs.Words.{atom_at}
use Rattle.tc_histline.specs.declared.lines.Line.{Line}
use Rattle.tc_histline.specs.declared.lines.Line.TheVariants as line
use Rattle.tc_histline.specs.declared.lines.TextRow.{TextRow}
use Rattle.tc_histline.specs.declared.lines.WrittenLine.{WrittenLine}
use Rattle.tc_histline.specs.declared.lines.WrittenLine.TheVariants.{Plain, Replacing}
use Rattle.tc_histline.specs.declared.read_operations.WrittenOp.TheVariants as op
use Rattle.tc_histline.specs.declared.versions.Version.{Version}
use Rattle.tc_histline.specs.declared.versions.Version.TheVariants.{One, Two}

-- the heading of a centre or of an agent
abbrev pub heading_at : List ℕ → Front Line
heading_at bytes =
    or_else (made line.Centre (between (codes "centre ") (codes "\n") atom_at bytes))
    (made line.Agent (between (codes "agent ") (codes "\n") atom_at bytes))

-- the first line or the last
abbrev pub edge_at : List ℕ → Front Line
edge_at bytes =
    or_else (word_for (line.First One) (codes "tucson 1\n") bytes)
    (or_else (word_for (line.First Two) (codes "tucson 2\n") bytes)
    (or_else (word_for (line.End true) (codes "end blocked\n") bytes)
    (word_for (line.End false) (codes "end ended\n") bytes)))

-- a line that is the same in each version
abbrev pub common_line_at : List ℕ → Front Line
common_line_at bytes =
    or_else (made line.Reaction (item_at bytes)) (or_else (heading_at bytes) (edge_at bytes))

abbrev pub written_row : TextRow → WrittenLine
written_row row = Plain (line.Row row)

-- a line
abbrev pub line_at : Version → List (List ℕ) → List ℕ → Front WrittenLine
line_at v agents bytes =
    or_else (made written_row (row_at v bytes))
    (or_else (entry_at v agents bytes) (made Plain (common_line_at bytes)))

-- the line as it is written
abbrev pub as_written : Line → WrittenLine
as_written (line.Entry (Called id o result items)) = called id (written_op o) result
as_written l = Plain l

-- its text
abbrev pub written_line_text : Version → List (List ℕ) → WrittenLine → List ℕ
written_line_text v agents (Plain l) = line_text v agents l
written_line_text v agents (Replacing id text result) =
    joined (
    codes "call " ∷ call_text agents id ∷ codes " " ∷ written_text (op.Replaced text) ∷
    codes " = " ∷ outcome_text result ∷ codes "\n" ∷ [])

-- the call is one of these agents, and its numbers are what their types promise
abbrev pub IsCallIn : List (List ℕ) → CallId → Type 0
IsCallIn agents id = Is32 id.agent × (id.agent < length agents) × Is64 id.number

-- the entry, without reactions, has a text in this version
abbrev pub IsEntryWritten : Version → List (List ℕ) → Entry → Type 0
IsEntryWritten v agents (Called id o result items) =
    IsCallIn agents id × IsWrittenIn v (op.Plain o) × IsOutcomeIn v result × (items ≡ [])
IsEntryWritten v agents (Gave id result items) =
    IsCallIn agents id × IsOutcomeIn v result × (items ≡ [])
IsEntryWritten v agents (Looked id asked told) =
    IsCallIn agents id × Is64 asked × IsToldIn v told

-- the line has a text in this version
abbrev pub IsLineWritten : Version → List (List ℕ) → WrittenLine → Type 0
IsLineWritten v agents (Plain (line.First w)) = Unit {0}
IsLineWritten v agents (Plain (line.Centre name)) = Unit {0}
IsLineWritten v agents (Plain (line.Agent name)) = Unit {0}
IsLineWritten v agents (Plain (line.Entry e)) = IsEntryWritten v agents e
IsLineWritten v agents (Plain (line.Reaction i)) = HasItemLine i
IsLineWritten v agents (Plain (line.Row row)) = Is64 row.number × IsResultIn v row.result
IsLineWritten v agents (Plain (line.End blocked)) = Unit {0}
IsLineWritten v agents (Replacing id text result) = IsCallIn agents id × IsOutcomeIn v result
