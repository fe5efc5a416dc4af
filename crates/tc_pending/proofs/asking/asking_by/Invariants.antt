use Rattle.std.proofs.Common.{◌≤◌, ◌-◌}
use Rattle.tc_pending.specs.Filed.{Asks, NoneSuch}
use Rattle.tc_pending.proofs.asking.asking_by.Given as goal

abbrev pub invariant-loop-place : goal.invariant-loop-place
invariant-loop-place g l = record {
  inside : l.at ≤ l.count;
  none : NoneSuch (Asks l.wanted) l.waiters.requests.now l.code l.at;
  rises : l.initial.steps ≤ l.steps;
}

abbrev pub decreases-loop-place : goal.decreases-loop-place
decreases-loop-place g l = l.count - l.at
