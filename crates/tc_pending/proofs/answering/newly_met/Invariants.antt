use Rattle.std.proofs.Common.{◌≤◌, ◌-◌}
use Rattle.tc_pending.proofs.Newly.{IsSoFar}
use Rattle.tc_pending.proofs.answering.newly_met.Given as goal

abbrev pub invariant-loop-age : goal.invariant-loop-age
invariant-loop-age g l = record {
  far : IsSoFar l.bag.now l.waiters.requests.now l.initial.count l.next l.count l.from;
  rises : l.initial.steps ≤ l.steps;
}

abbrev pub decreases-loop-age : goal.decreases-loop-age
decreases-loop-age g l = l.bag.next - l.from
