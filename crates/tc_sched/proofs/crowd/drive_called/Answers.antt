use Rattle.std.proofs.Common.{◌<◌, sym, arith, subst}
use Rattle.tc_sched.proofs.Crowds.{driving-none, round-ready, round-last, sweeps-last, driving-more}
use Rattle.tc_sched.proofs.crowd.drive_called.Goals as goal

pub loop-init : goal.loop-init
loop-init g c = record {
  can = tt;
  finite = tt;
  size = subst (λ k. 0 < k) (sym c.max-size.ensures) (omega arith);
  driving = driving-none g.D.Desk.state g.D.Desk.bond g.D.Desk.sound c.args.names.now c.args.actors.now c.requires.ready;
}

pub returns-in_err-round-clause-went : goal.returns-in_err-round-clause-went
returns-in_err-round-clause-went g c =
    round-last g.D.Desk.state g.D.Desk.bond g.D.Desk.sound c.args.names.now c.args.actors.now c.loop.actors c.round.new.actors c.loop.invariant.driving c.round.ensures

pub settle-requires-clause-ready : goal.settle-requires-clause-ready
settle-requires-clause-ready g c =
    round-ready g.D.Desk.state g.D.Desk.bond g.D.Desk.sound c.args.names.now c.args.actors.now c.loop.actors c.round.new.actors c.loop.invariant.driving c.round.ensures

pub returns-in_err-moved-clause-went : goal.returns-in_err-moved-clause-went
returns-in_err-moved-clause-went g c =
    sweeps-last g.D.Desk.state g.D.Desk.bond g.D.Desk.sound c.args.names.now c.args.actors.now c.loop.actors c.round.new.actors c.settle.new.actors c.loop.invariant.driving c.round.ensures c.settle.ensures.settles

pub returns-then-not-moved-clause-went : goal.returns-then-not-moved-clause-went
returns-then-not-moved-clause-went g c =
    sweeps-last g.D.Desk.state g.D.Desk.bond g.D.Desk.sound c.args.names.now c.args.actors.now c.loop.actors c.round.new.actors c.settle.new.actors c.loop.invariant.driving c.round.ensures c.settle.ensures.settles

pub loop-preserved : goal.loop-preserved
loop-preserved g c = record {
  can = tt;
  finite = tt;
  size = c.loop.invariant.size;
  driving =
      driving-more g.D.Desk.state g.D.Desk.bond g.D.Desk.sound c.args.names.now c.args.actors.now c.loop.actors c.round.new.actors c.settle.new.actors c.loop.invariant.driving c.round.ensures
      (c.in_ok-moved.ensures.moves c.if-not-moved.false);
}
