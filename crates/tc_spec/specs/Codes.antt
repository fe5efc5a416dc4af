-- Codes of operations and terms: numbers by which clauses are looked up. Heads of one code may
-- differ.
use Rattle.std.specs.Prelude.{ℕ, ◌+◌, ◌%◌, ◌==◌, Bool, true, Option, Some, None}
use Rattle.std.specs.Prelude.{unsigned_abs}
use Rattle.std.specs.List.{fold}
use Rattle.std.specs.Option.{option_map}
use Rattle.tc_lists.specs.Codes.{mixed}
use Rattle.tc_term.specs.Tree.{Tree, Variable, Atomic, Number, Compound, Trees, Last, More}
use Rattle.tc_model.specs.Reactions.{Rule}
use Rattle.tc_model.specs.declared.events.EventOp.{EventOp}
use Rattle.tc_model.specs.declared.events.EventOp.TheVariants as op

-- how many arguments there are
abbrev pub count_of : Trees → ℕ
count_of (Last t) = 1
count_of (More t ts) = count_of ts + 1

-- the code of an operation
abbrev pub op_code : EventOp → ℕ
op_code op.Out = 1
op_code op.In = 2
op_code op.Rd = 3
op_code op.Inp = 4
op_code op.Rdp = 5
op_code op.No = 6
op_code op.Nop = 7
op_code op.OutR = 8
op_code op.InR = 9
op_code op.RdR = 10
op_code op.NoR = 11

-- the code of an operation and of a term without its arguments; a variable has none
abbrev pub code_of : EventOp → Tree → Option ℕ
code_of o (Variable n) = None
code_of o (Atomic name) = Some (fold mixed (op_code o) name)
code_of o (Number n) = Some (mixed (op_code o) (unsigned_abs n))
code_of o (Compound name args) = Some (fold mixed (mixed (op_code o) (count_of args)) name)

-- in which of so many parts an operation's clauses with this term for a head are; one with a
-- variable for a head is in each
abbrev pub part_in : ℕ → EventOp → Tree → Option ℕ
part_in count o t = option_map (λ code. code % count) (code_of o t)

-- the part of a rule
abbrev pub rule_part : ℕ → Rule → Option ℕ
rule_part count r = part_in count r.op r.head

-- whether what is in this place, or in each, is in this part
abbrev pub is_in : Option ℕ → ℕ → Bool
is_in None part = true
is_in (Some place) part = place == part
