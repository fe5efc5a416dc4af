use Rattle.std.proofs.Common.{arith}
use Rattle.tc_sched.proofs.Sweeps.{others-ready, others-went}
use Rattle.tc_sched.proofs.crowd.sweep.Goals as goal

pub step_others-requires : goal.step_others-requires
step_others-requires g c = record {
  ready = others-ready g.D.Desk.state g.D.Desk.bond g.D.Desk.sound c.args.names.now c.args.actors.now c.step_called.new.actors c.requires.ready c.step_called.ensures.went
      (c.in_ok-moved.ensures.stays (omega (arith, c.if-moved-gt0.false)));
}

pub returns-clause-went : goal.returns-clause-went
returns-clause-went g c =
    others-went g.D.Desk.state g.D.Desk.bond g.D.Desk.sound c.args.actors.now c.step_called.new.actors c.step_others.new.actors c.step_called.ensures.went
    (c.in_ok-moved.ensures.stays (omega (arith, c.if-moved-gt0.false))) c.step_others.ensures.went
