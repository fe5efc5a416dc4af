use Rattle.std.proofs.Common.{◌≤◌, ◌+◌, take, drop}
use Rattle.tc_lists.specs.Firsts.{NoneOf}
use Rattle.tc_bag.specs.Stock.{tuples_of}
use Rattle.tc_model.specs.State.{IsAnswerable}
use Rattle.tc_pending.specs.Costs.{requests_steps}
use Rattle.tc_pending.proofs.answering.answerable_from.Given as goal

abbrev pub invariant-loop-at : goal.invariant-loop-at
invariant-loop-at g l = record {
  none : NoneOf (IsAnswerable (tuples_of l.bag.now)) (take l.at l.requests);
  counted : l.steps + requests_steps (tuples_of l.bag.now) (drop l.at l.requests)
      ≤ l.initial.steps + requests_steps (tuples_of l.bag.now) (drop l.place l.requests);
  rises : l.initial.steps ≤ l.steps;
}
