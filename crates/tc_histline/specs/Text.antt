-- The text of the lines of histories and logs, and of their parts.
use Rattle.std.specs.Prelude.{ℕ, decimal, Bool, true, false, List, [], ◌∷◌, ◌++◌, codes}
use Rattle.std.specs.Prelude.{Option, Some, None}
use Rattle.std.specs.List.{flat_map}
use Rattle.std.proofs.Common.{get_or}
use Rattle.tc_lists.specs.Texts.{joined}
use Rattle.tc_term.specs.Tree.{Tree}
use Rattle.tc_term.specs.Text.{canonical, atom_text, quoted}
use Rattle.tc_model.specs.Asks.{primitive_name}
use Rattle.tc_model.specs.Reactions.{clauses_text}
use Rattle.tc_model.specs.declared.asks.Primitive.{Primitive}
use Rattle.tc_model.specs.declared.asks.Primitive.TheVariants as primitive
use Rattle.tc_model.specs.declared.calls.CallId.{CallId}
use Rattle.tc_model.specs.declared.calls.Op.{Op}
use Rattle.tc_model.specs.declared.calls.Op.TheVariants.{Out, In, Rd, Inp, Rdp, No, Nop}
use Rattle.tc_model.specs.declared.calls.Op.TheVariants.{SetSpec, GetSpec}
use Rattle.tc_model.specs.declared.entries.Entry.{Entry}
use Rattle.tc_model.specs.declared.entries.Entry.TheVariants.{Called, Gave, Looked}
use Rattle.tc_model.specs.declared.events.Phase.{Phase}
use Rattle.tc_model.specs.declared.events.Phase.TheVariants.{Pre, Post}
use Rattle.tc_model.specs.declared.faults.SpecCause.{SpecCause}
use Rattle.tc_model.specs.declared.faults.SpecCause.TheVariants.{Syntax, Size, Shape, Head, Goal}
use Rattle.tc_model.specs.declared.faults.SpecCause.TheVariants.{Count}
use Rattle.tc_model.specs.declared.items.Effect.{Effect}
use Rattle.tc_model.specs.declared.items.Effect.TheVariants.{Put, Took, Read}
use Rattle.tc_model.specs.declared.items.Item.{Item}
use Rattle.tc_model.specs.declared.items.Item.TheVariants.{Fired, Failed}
use Rattle.tc_model.specs.declared.outcomes.Outcome.{Outcome}
use Rattle.tc_model.specs.declared.outcomes.Outcome.TheVariants as outcome
use Rattle.tc_model.specs.declared.outcomes.Reply.{Reply}
use Rattle.tc_model.specs.declared.outcomes.Reply.TheVariants as reply
use Rattle.tc_desk.specs.declared.rows.LogRow.{LogRow}
use Rattle.tc_desk.specs.declared.rows.LogResult.{LogResult}
use Rattle.tc_desk.specs.declared.rows.LogResult.TheVariants.{Replied, Pending, Refused, Polled}
use Rattle.tc_desk.specs.declared.rows.Refusal.{Refusal}
use Rattle.tc_desk.specs.declared.rows.Refusal.TheVariants as refusal
use Rattle.tc_histline.specs.declared.lines.TextRow.{TextRow}
use Rattle.tc_histline.specs.declared.versions.Version.{Version}
use Rattle.tc_histline.specs.declared.versions.Version.TheVariants.{One, Two}

-- the name of a primitive, and the text of its operand in brackets
abbrev pub applied_text : Primitive → List ℕ → List ℕ
applied_text p operand = joined (primitive_name p ∷ codes "(" ∷ operand ∷ codes ")" ∷ [])

-- an operation; `no` and `nop` stand in texts of version 2 alone
abbrev pub op_text : Op → List ℕ
op_text (Out t) = applied_text primitive.Out (canonical t)
op_text (In t) = applied_text primitive.In (canonical t)
op_text (Rd t) = applied_text primitive.Rd (canonical t)
op_text (Inp t) = applied_text primitive.Inp (canonical t)
op_text (Rdp t) = applied_text primitive.Rdp (canonical t)
op_text (No t) = applied_text primitive.No (canonical t)
op_text (Nop t) = applied_text primitive.Nop (canonical t)
op_text (SetSpec clauses) = applied_text primitive.SetSpec (quoted (clauses_text clauses))
op_text GetSpec = primitive_name primitive.GetSpec

-- that the reactions of a phase went over the budget
abbrev pub over_text : Phase → List ℕ
over_text Pre = codes "over pre"
over_text Post = codes "over post"

-- a tuple that was chosen, if one was
abbrev pub chosen_text : Option Tree → List ℕ
chosen_text None = []
chosen_text (Some t) = codes " " ++ canonical t

-- the outcome of an entry; `absent` and `found` stand in texts of version 2 alone
abbrev pub outcome_text : Outcome → List ℕ
outcome_text outcome.Done = codes "done"
outcome_text (outcome.Took t) = codes "tuple " ++ canonical t
outcome_text outcome.NoTuple = codes "none"
outcome_text outcome.Absent = codes "absent"
outcome_text (outcome.Found t) = codes "found " ++ canonical t
outcome_text outcome.Pending = codes "pending"
outcome_text (outcome.Spec text) = codes "spec " ++ quoted text
outcome_text (outcome.Over phase tuple) = over_text phase ++ chosen_text tuple

-- a reply; `absent` and `found` stand in texts of version 2 alone
abbrev pub reply_text : Reply → List ℕ
reply_text reply.Done = codes "done"
reply_text (reply.Tuple t) = codes "tuple " ++ canonical t
reply_text reply.NoTuple = codes "none"
reply_text reply.Absent = codes "absent"
reply_text (reply.Found t) = codes "found " ++ canonical t
reply_text (reply.Spec text) = codes "spec " ++ quoted text
reply_text (reply.OverBudget phase) = over_text phase

-- what an agent is told that asks: the reply, or that there is none yet
abbrev pub told_text : Option Reply → List ℕ
told_text (Some r) = reply_text r
told_text None = codes "pending"

-- an effect of a reaction, behind a space
abbrev pub effect_text : Effect → List ℕ
effect_text (Put t) = codes " put " ++ canonical t
effect_text (Took t) = codes " took " ++ canonical t
effect_text (Read t) = codes " read " ++ canonical t

abbrev pub effects_text : List Effect → List ℕ
effects_text effects = flat_map effect_text effects

-- the line of a reaction
abbrev pub item_text : Item → List ℕ
item_text (Fired pick clause effects) =
    joined (
    codes "  " ∷ decimal pick ∷ codes " fired " ∷ decimal clause ∷ effects_text effects ∷
    codes "\n" ∷ [])
item_text (Failed pick clause goal effects) =
    joined (
    codes "  " ∷ decimal pick ∷ codes " failed " ∷ decimal clause ∷ codes " at " ∷
    decimal goal ∷ effects_text effects ∷ codes "\n" ∷ [])

abbrev pub items_text : List Item → List ℕ
items_text items = flat_map item_text items

-- the agent's name, of these, and the number of a call
abbrev pub call_text : List (List ℕ) → CallId → List ℕ
call_text agents id =
    joined (atom_text (get_or agents id.agent []) ∷ codes " " ∷ decimal id.number ∷ [])

-- the line of an entry, and those of its reactions
abbrev pub entry_text : List (List ℕ) → Entry → List ℕ
entry_text agents (Called id op result items) =
    joined (
    codes "call " ∷ call_text agents id ∷ codes " " ∷ op_text op ∷ codes " = " ∷
    outcome_text result ∷ codes "\n" ∷ items_text items ∷ [])
entry_text agents (Gave id result items) =
    joined (
    codes "give " ∷ call_text agents id ∷ codes " = " ∷ outcome_text result ∷
    codes "\n" ∷ items_text items ∷ [])
entry_text agents (Looked id asked told) =
    joined (
    codes "look " ∷ call_text agents id ∷ codes " " ∷ decimal asked ∷ codes " = " ∷
    told_text told ∷ codes "\n" ∷ [])

-- what is wrong with a clause
abbrev pub cause_text : SpecCause → List ℕ
cause_text Syntax = codes "syntax"
cause_text Size = codes "size"
cause_text Shape = codes "shape"
cause_text Head = codes "head"
cause_text Goal = codes "goal"
cause_text Count = codes "count"

-- that a centre was full; since version 2, what it weighed and how many requests were pending
abbrev pub full_text : Version → ℕ → ℕ → List ℕ
full_text One weight pending = codes "full"
full_text Two weight pending =
    joined (codes "full " ∷ decimal weight ∷ codes " " ∷ decimal pending ∷ [])

-- why an ask was not served
abbrev pub refusal_text : Version → Refusal → List ℕ
refusal_text v refusal.UnknownCentre = codes "unknown centre"
refusal_text v refusal.Waiting = codes "waiting"
refusal_text v refusal.Denied = codes "denied"
refusal_text v refusal.TooBig = codes "too big"
refusal_text v refusal.NotGround = codes "not ground"
refusal_text v (refusal.BadSpec bad) =
    joined (codes "bad spec " ∷ decimal bad.clause ∷ codes " " ∷ cause_text bad.cause ∷ [])
refusal_text v refusal.TurnsSpent = codes "turns spent"
refusal_text v (refusal.Full weight pending) = full_text v weight pending
refusal_text v refusal.NoMemory = codes "no memory"

-- what became of an ask
abbrev pub result_text : Version → LogResult → List ℕ
result_text v (Replied r) = reply_text r
result_text v Pending = codes "pending"
result_text v (Refused why) = refusal_text v why
result_text v (Polled told) = codes "poll " ++ told_text told

-- what a line says of a row
abbrev pub line_of : LogRow → TextRow
line_of row = record { number = row.number; centre = row.centre; result = row.result }

-- the line of a row: its number, the centre, and what became of the ask
abbrev pub text_row_text : Version → TextRow → List ℕ
text_row_text v row =
    joined (
    decimal row.number ∷ codes " " ∷ atom_text row.centre ∷ codes " " ∷
    result_text v row.result ∷ codes "\n" ∷ [])

abbrev pub row_text : Version → LogRow → List ℕ
row_text v row = text_row_text v (line_of row)

-- the line before a centre's history, and the one before an agent's log
abbrev pub centre_heading : List ℕ → List ℕ
centre_heading name = joined (codes "centre " ∷ atom_text name ∷ codes "\n" ∷ [])

abbrev pub agent_heading : List ℕ → List ℕ
agent_heading name = joined (codes "agent " ∷ atom_text name ∷ codes "\n" ∷ [])

-- the first line
abbrev pub version_text : Version → List ℕ
version_text One = codes "tucson 1\n"
version_text Two = codes "tucson 2\n"

-- the last line: whether some agent's ask is pending
abbrev pub end_text : Bool → List ℕ
end_text true = codes "end blocked\n"
end_text false = codes "end ended\n"
