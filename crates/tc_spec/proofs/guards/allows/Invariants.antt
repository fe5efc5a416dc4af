use Rattle.std.proofs.Common.{take}
use Rattle.tc_spec.specs.Guards.{Allows}
use Rattle.tc_spec.proofs.guards.allows.Given as goal

-- the tests so far hold
abbrev pub invariant-loop-i : goal.invariant-loop-i
invariant-loop-i l = Allows l.phase l.sign (take l.i l.tests)
