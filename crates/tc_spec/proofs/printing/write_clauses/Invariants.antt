use Rattle.std.proofs.Common.{◌≡◌, ◌++◌, take}
use Rattle.tc_model.specs.Reactions.{clauses_text}
use Rattle.tc_spec.proofs.printing.write_clauses.Given as goal

-- the clauses so far are written
abbrev pub invariant-loop-clause : goal.invariant-loop-clause
invariant-loop-clause l = l.into.items ≡ l.fn.into.items ++ clauses_text (take l.clause-index l.clauses)
