use Rattle.std.proofs.Common.{◌-◌, ◌≤◌}
use Rattle.tc_bells.proofs.roll.Roll.next.Given as goal

abbrev pub invariant-loop-start : goal.invariant-loop-start
invariant-loop-start l = l.from ≤ l.start

abbrev pub decreases-loop-start : goal.decreases-loop-start
decreases-loop-start l = l.to - l.start
