-- Operations at the front of bytes.
use Rattle.std.specs.Prelude.{ℕ, List, codes}
use Rattle.tc_lists.specs.AtFront.{Front, between, made, or_else, word_for}
use Rattle.tc_term.specs.Text.{quoted}
use Rattle.tc_term.specs.Tree.{IsTuple}
use Rattle.tc_term.specs.Variables.{IsPattern}
use Rattle.tc_model.specs.Reactions.{clauses_text}
use Rattle.tc_model.specs.declared.calls.Op.{Op}
use Rattle.tc_model.specs.declared.calls.Op.TheVariants.{Out, In, Rd, Inp, Rdp, No, Nop}
use Rattle.tc_model.specs.declared.calls.Op.TheVariants.{SetSpec, GetSpec}
use Rattle.tc_model.specs.declared.asks.Primitive.TheVariants as primitive
use Rattle.tc_histline.specs.Text.{applied_text, op_text}
use Rattle.tc_histline.specs.Words.{quote_at, template_at, tuple_at}
use Rattle.tc_histline.specs.declared.read_operations.WrittenOp.{WrittenOp}
use Rattle.tc_histline.specs.declared.read_operations.WrittenOp.TheVariants.{Plain, Replaced}
use Rattle.tc_histline.specs.declared.versions.Version.{Version}
use Rattle.tc_histline.specs.declared.versions.Version.TheVariants.{One, Two}

-- the operation as it is written: one that replaces the clauses has their text
abbrev pub written_op : Op → WrittenOp
written_op (SetSpec clauses) = Replaced (clauses_text clauses)
written_op (Out t) = Plain (Out t)
written_op (In t) = Plain (In t)
written_op (Rd t) = Plain (Rd t)
written_op (Inp t) = Plain (Inp t)
written_op (Rdp t) = Plain (Rdp t)
written_op (No t) = Plain (No t)
written_op (Nop t) = Plain (Nop t)
written_op GetSpec = Plain GetSpec

-- what only version 2 has
abbrev pub since_two : Version → Type 0 → Type 0
since_two One holds = ⊥
since_two Two holds = holds

-- the operation has a text in this version: it has a tuple or a template, as its kind asks
abbrev pub IsWrittenIn : Version → WrittenOp → Type 0
IsWrittenIn v (Plain (Out tuple)) = IsTuple tuple
IsWrittenIn v (Plain (In template)) = IsPattern template
IsWrittenIn v (Plain (Rd template)) = IsPattern template
IsWrittenIn v (Plain (Inp template)) = IsPattern template
IsWrittenIn v (Plain (Rdp template)) = IsPattern template
IsWrittenIn v (Plain (No template)) = since_two v (IsPattern template)
IsWrittenIn v (Plain (Nop template)) = since_two v (IsPattern template)
IsWrittenIn v (Plain (SetSpec clauses)) = ⊥
IsWrittenIn v (Plain GetSpec) = Unit {0}
IsWrittenIn v (Replaced text) = Unit {0}

abbrev pub written_text : WrittenOp → List ℕ
written_text (Plain op) = op_text op
written_text (Replaced text) = applied_text primitive.SetSpec (quoted text)

-- an operation that each version has
abbrev pub common_op_at : List ℕ → Front WrittenOp
common_op_at bytes =
    or_else (made (λ t. Plain (Out t)) (between (codes "out(") (codes ")") tuple_at bytes))
    (or_else (made (λ t. Plain (In t)) (between (codes "in(") (codes ")") template_at bytes))
    (or_else (made (λ t. Plain (Rd t)) (between (codes "rd(") (codes ")") template_at bytes))
    (or_else (made (λ t. Plain (Inp t)) (between (codes "inp(") (codes ")") template_at bytes))
    (or_else (made (λ t. Plain (Rdp t)) (between (codes "rdp(") (codes ")") template_at bytes))
    (or_else (made Replaced (between (codes "set_spec(") (codes ")") quote_at bytes))
    (word_for (Plain GetSpec) (codes "get_spec") bytes))))))

-- an operation that version 2 has besides
abbrev pub further_op_at : List ℕ → Front WrittenOp
further_op_at bytes =
    or_else (made (λ t. Plain (No t)) (between (codes "no(") (codes ")") template_at bytes))
    (made (λ t. Plain (Nop t)) (between (codes "nop(") (codes ")") template_at bytes))

-- an operation
abbrev pub op_at : Version → List ℕ → Front WrittenOp
op_at One bytes = common_op_at bytes
op_at Two bytes = or_else (common_op_at bytes) (further_op_at bytes)
