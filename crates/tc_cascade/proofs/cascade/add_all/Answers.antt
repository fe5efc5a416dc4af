use Rattle.std.proofs.Common.{[], ◌∷◌, arith}
use Rattle.std.proofs.lemmas.List.Sums.{sum_by_push}
use Rattle.tc_spec.specs.Costs.{trigger_steps}
use Rattle.tc_cascade.proofs.Triggering.{adds_more}
use Rattle.tc_cascade.proofs.cascade.add_all.Goals as goal

pub loop-event-preserved : goal.loop-event-preserved
loop-event-preserved g c = record {
  adds =
      adds_more c.args.spec.now c.loop-event.yielded (c.in-Some.event ∷ []) c.args.room
      c.args.triggered.now c.loop-event.triggered c.add.new.triggered c.loop-event.invariant.adds c.in_ok-add.ensures.adds;
  counted =
      omega (
        arith,
        c.add.ensures.counted,
        c.loop-event.invariant.counted,
        sum_by_push (trigger_steps c.args.spec.now) c.loop-event.yielded c.in-Some.event,
      );
  rises = omega (arith, c.add.ensures.rises, c.loop-event.invariant.rises);
}
