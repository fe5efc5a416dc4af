-- Lines of entries at the front of bytes.
use Rattle.std.specs.Prelude.{ℕ, ◌-◌, ◌^◌, nat_le, if◌then◌else◌, List, [], codes}
use Rattle.std.specs.Prelude.{Option, Some, None}
use Rattle.tc_lists.specs.AtFront.{Front, and_then, behind, closed_by, made, or_else}
use Rattle.tc_lists.specs.Texts.{after}
use Rattle.tc_names.specs.Names.{place_of}
use Rattle.tc_model.specs.declared.calls.CallId.{CallId}
use Rattle.tc_model.specs.declared.entries.Entry.TheVariants.{Called, Gave, Looked}
use Rattle.tc_model.specs.declared.outcomes.Outcome.{Outcome}
use Rattle.tc_model.specs.declared.outcomes.Reply.{Reply}
use Rattle.tc_histline.specs.Operations.{op_at}
use Rattle.tc_histline.specs.Outcomes.{ended, outcome_at, told_at}
use Rattle.tc_histline.specs.Rows.{count_at}
use Rattle.tc_histline.specs.Words.{atom_at}
use Rattle.tc_histline.specs.declared.lines.Line.TheVariants as line
use Rattle.tc_histline.specs.declared.lines.WrittenLine.{WrittenLine}
use Rattle.tc_histline.specs.declared.lines.WrittenLine.TheVariants as written
use Rattle.tc_histline.specs.declared.read_operations.WrittenOp.{WrittenOp}
use Rattle.tc_histline.specs.declared.read_operations.WrittenOp.TheVariants as op
use Rattle.tc_histline.specs.declared.versions.Version.{Version}

-- the number of an agent, where it has 32 bits
abbrev pub if_agent : List ℕ → Option ℕ → Front ℕ
if_agent rest None = None
if_agent rest (Some n) = if nat_le n (2 ^ 32 - 1) then Some (n, rest) else None

-- the agent of this name
abbrev pub named : List (List ℕ) → Front (List ℕ) → Front ℕ
named agents None = None
named agents (Some (name, rest)) = if_agent rest (place_of agents name)

abbrev pub agent_at : List (List ℕ) → List ℕ → Front ℕ
agent_at agents bytes = named agents (atom_at bytes)

abbrev pub call_of : ℕ → ℕ → CallId
call_of agent number = record { agent = agent; number = number }

-- the agent of a call, and its number
abbrev pub call_at : List (List ℕ) → List ℕ → Front CallId
call_at agents bytes =
    and_then (closed_by (codes " ") (agent_at agents bytes)) (λ agent rest.
    made (call_of agent) (count_at rest))

-- the line of a call with this outcome; one that replaces the clauses has their text
abbrev pub called : CallId → WrittenOp → Outcome → WrittenLine
called id (op.Plain o) outcome = written.Plain (line.Entry (Called id o outcome []))
called id (op.Replaced text) outcome = written.Replacing id text outcome

abbrev pub gave : CallId → Outcome → WrittenLine
gave id outcome = written.Plain (line.Entry (Gave id outcome []))

abbrev pub looked : CallId → ℕ → Option Reply → WrittenLine
looked id asked told = written.Plain (line.Entry (Looked id asked told))

-- the line of a call, behind its word
abbrev pub called_at : Version → List (List ℕ) → List ℕ → Front WrittenLine
called_at v agents bytes =
    and_then (closed_by (codes " ") (call_at agents bytes)) (λ id rest.
    and_then (closed_by (codes " = ") (op_at v rest)) (λ o rest.
    made (called id o) (ended (outcome_at v) rest)))

-- the line of an answer
abbrev pub gave_at : Version → List (List ℕ) → List ℕ → Front WrittenLine
gave_at v agents bytes =
    and_then (closed_by (codes " = ") (call_at agents bytes)) (λ id rest.
    made (gave id) (ended (outcome_at v) rest))

-- the line of a look
abbrev pub looked_at : Version → List (List ℕ) → List ℕ → Front WrittenLine
looked_at v agents bytes =
    and_then (closed_by (codes " ") (call_at agents bytes)) (λ id rest.
    and_then (closed_by (codes " = ") (count_at rest)) (λ asked rest.
    made (looked id asked) (ended (told_at v) rest)))

-- the line of an entry
abbrev pub entry_at : Version → List (List ℕ) → List ℕ → Front WrittenLine
entry_at v agents bytes =
    or_else (behind (after (codes "call ") bytes) (called_at v agents))
    (or_else (behind (after (codes "give ") bytes) (gave_at v agents))
    (behind (after (codes "look ") bytes) (looked_at v agents)))
