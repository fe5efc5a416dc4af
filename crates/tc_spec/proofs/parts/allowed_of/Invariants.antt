use Rattle.std.proofs.Common.{get_or}
use Rattle.tc_spec.proofs.Sifting.{HasClause, IsKept}
use Rattle.tc_spec.specs.Guards.{Allows}
use Rattle.tc_spec.proofs.parts.allowed_of.Given as goal

-- of the numbers so far those whose clauses' guards allow it are kept
abbrev pub invariant-loop-i : goal.invariant-loop-i
invariant-loop-i l =
    IsKept (λ k. get_or l.numbers k 0) (HasClause l.clauses (λ r. Allows l.phase l.sign r.guard)) l.i l.found.items
