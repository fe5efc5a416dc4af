use Rattle.std.proofs.Common.{◌≡◌, ◌≤◌, ◌+◌, ◌-◌, ◌*◌, length}
use Rattle.tc_model.specs.declared.limits.TheConstants.{MOST_GOALS}
use Rattle.tc_bag.specs.Stock.{AddsYounger, tuples_of}
use Rattle.tc_cascade.specs.Costs.{cascade_steps}
use Rattle.tc_cascade.specs.Reached.{IsAt}
use Rattle.tc_cascade.proofs.cascade.run.Given as goal

abbrev pub invariant-loop-k : goal.invariant-loop-k
invariant-loop-k g l = record {
  at : IsAt l.spec l.context l.e l.initial.bag l.bag l.items.items l.triggered (l.budget + 1 - l.k);
  count : length l.items.items ≡ l.k;
  saved : l.bag.saved ≡ l.initial.bag.saved;
  next : l.bag.next ≤ l.initial.bag.next + MOST_GOALS * l.k;
  adds : AddsYounger l.initial.bag l.bag;
  counted : l.steps ≤ l.fn.steps + cascade_steps l.spec l.e l.items.items (tuples_of l.initial.bag.now);
  rises : l.fn.steps ≤ l.steps;
}
