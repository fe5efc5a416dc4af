use Rattle.tc_spec.proofs.Parted.{ArePartsTo}
use Rattle.tc_spec.proofs.parts.parts_of.Given as goal

-- the parts so far are made
abbrev pub invariant-loop-place : goal.invariant-loop-place
invariant-loop-place l = ArePartsTo l.fn.clauses l.count l.parts.items l.place
