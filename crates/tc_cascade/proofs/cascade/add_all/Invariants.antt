use Rattle.std.proofs.Common.{◌≤◌, ◌+◌}
use Rattle.std.specs.List.{sum_by}
use Rattle.tc_spec.specs.Costs.{trigger_steps}
use Rattle.tc_cascade.specs.Adding.{Adds}
use Rattle.tc_cascade.proofs.cascade.add_all.Given as goal

abbrev pub invariant-loop-event : goal.invariant-loop-event
invariant-loop-event g l = record {
  adds : Adds l.spec l.yielded l.room l.initial.triggered l.triggered;
  counted : l.steps ≤ l.initial.steps + sum_by (trigger_steps l.spec) l.yielded;
  rises : l.initial.steps ≤ l.steps;
}
