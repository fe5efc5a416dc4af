use Rattle.std.proofs.Common.{◌≡◌, map, take}
use Rattle.tc_spec.specs.Codes.{rule_part}
use Rattle.tc_spec.proofs.parts.places_of.Given as goal

-- the clauses so far have their places
abbrev pub invariant-loop-clause : goal.invariant-loop-clause
invariant-loop-clause l = l.places.items ≡ map (rule_part l.fn.count) (take l.clause-index l.clauses)
