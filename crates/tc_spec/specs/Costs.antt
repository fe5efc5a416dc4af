-- How many steps it takes to find the clauses that an event triggers.
use Rattle.std.specs.Prelude.{ℕ, ◌&&◌, Bool, List, length, filter}
use Rattle.std.specs.Str.{bytes_eq}
use Rattle.tc_steps.specs.Tops.{agree}
use Rattle.tc_model.specs.Events.{Occurrence, op_name}
use Rattle.tc_model.specs.Reactions.{Rule}

-- whether an event may trigger a clause: the clause is of the event's operation, and its head
-- agrees at the top with the event's term
abbrev pub may_trigger : Occurrence → Rule → Bool
may_trigger e r = bytes_eq (op_name r.op) (op_name e.op) && agree r.head e.term

-- the most steps of finding the clauses that an event triggers: one for each that it may trigger
abbrev pub trigger_steps : List Rule → Occurrence → ℕ
trigger_steps clauses e = length (filter (may_trigger e) clauses)
