use Rattle.std.proofs.Common.{◌≤◌, take}
use Rattle.tc_lists.specs.Firsts.{NoneOf}
use Rattle.tc_pending.specs.Filed.{Asks}
use Rattle.tc_pending.proofs.asking.gone_through.Given as goal

abbrev pub invariant-loop-place : goal.invariant-loop-place
invariant-loop-place g l = record {
  none : NoneOf (Asks l.wanted) (take l.place l.waiters.requests.now);
  rises : l.initial.steps ≤ l.steps;
}
