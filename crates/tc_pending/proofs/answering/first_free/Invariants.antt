use Rattle.std.proofs.Common.{◌≤◌, take}
use Rattle.tc_lists.specs.Firsts.{NoneOf}
use Rattle.tc_bag.specs.Stock.{tuples_of}
use Rattle.tc_pending.specs.Answers.{IsFree}
use Rattle.tc_pending.proofs.answering.first_free.Given as goal

abbrev pub invariant-loop-place : goal.invariant-loop-place
invariant-loop-place g l = record {
  none : NoneOf (IsFree (tuples_of l.bag.now)) (take l.place l.requests);
  rises : l.initial.steps ≤ l.steps;
}
