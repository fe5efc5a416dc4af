use Rattle.std.proofs.Common.{◌≤◌}
use Rattle.tc_pending.proofs.Freed.{IsSoFreed}
use Rattle.tc_pending.proofs.answering.oldest_free.Given as goal

abbrev pub invariant-loop-i : goal.invariant-loop-i
invariant-loop-i g l = record {
  freed : IsSoFreed l.bag l.waiters.requests.now l.gone l.i l.count l.least;
  rises : l.initial.steps ≤ l.steps;
}
