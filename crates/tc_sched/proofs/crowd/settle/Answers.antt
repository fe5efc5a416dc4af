use Rattle.std.proofs.Common.{◌<◌, ◌+◌, arith}
use Rattle.tc_sched.specs.Steps.{left_in}
use Rattle.tc_sched.proofs.Crowds.{settling-none, settling-last, settling-more, settling-moves, moves-settles}
use Rattle.tc_sched.proofs.crowd.settle.Goals as goal

pub loop-made-init : goal.loop-made-init
loop-made-init g c = settling-none g.D.Desk.state g.D.Desk.bond g.D.Desk.sound c.args.names.now c.args.actors.now c.requires.ready

pub returns-in_err-moved-clause-settles : goal.returns-in_err-moved-clause-settles
returns-in_err-moved-clause-settles g c =
    settling-last g.D.Desk.state g.D.Desk.bond g.D.Desk.sound c.args.names.now c.args.actors.now c.loop-made.actors c.sweep.new.actors c.loop-made.made c.loop-made.invariant c.sweep.ensures.went

pub returns-then-moved-eq0-clause-settles : goal.returns-then-moved-eq0-clause-settles
returns-then-moved-eq0-clause-settles g c =
    settling-last g.D.Desk.state g.D.Desk.bond g.D.Desk.sound c.args.names.now c.args.actors.now c.loop-made.actors c.sweep.new.actors c.loop-made.made c.loop-made.invariant c.sweep.ensures.went

pub returns-then-moved-pace-clause-settles : goal.returns-then-moved-pace-clause-settles
returns-then-moved-pace-clause-settles g c =
    settling-last g.D.Desk.state g.D.Desk.bond g.D.Desk.sound c.args.names.now c.args.actors.now c.loop-made.actors c.sweep.new.actors c.loop-made.made c.loop-made.invariant c.sweep.ensures.went

pub returns-then-moved-pace-clause-moves : goal.returns-then-moved-pace-clause-moves
returns-then-moved-pace-clause-moves g c = λ moved.
    let fell : left_in g.D.Desk.state c.sweep.new.actors < left_in g.D.Desk.state c.loop-made.actors =
    let least = c.in_ok-moved.ensures.moved in let some = c.if-moved-eq0.false in omega (arith, least, some) in
    settling-moves g.D.Desk.state g.D.Desk.bond g.D.Desk.sound c.args.names.now c.args.actors.now c.sweep.new.actors (c.loop-made.made + 1) (omega arith)
    (settling-more g.D.Desk.state g.D.Desk.bond g.D.Desk.sound c.args.names.now c.args.actors.now c.loop-made.actors c.sweep.new.actors c.loop-made.made c.loop-made.invariant c.sweep.ensures.went fell)

pub loop-made-preserved : goal.loop-made-preserved
loop-made-preserved g c =
    let fell : left_in g.D.Desk.state c.sweep.new.actors < left_in g.D.Desk.state c.loop-made.actors =
    let least = c.in_ok-moved.ensures.moved in let some = c.if-moved-eq0.false in omega (arith, least, some) in
    settling-more g.D.Desk.state g.D.Desk.bond g.D.Desk.sound c.args.names.now c.args.actors.now c.loop-made.actors c.sweep.new.actors c.loop-made.made c.loop-made.invariant c.sweep.ensures.went fell

pub returns-clause-settles : goal.returns-clause-settles
returns-clause-settles g c =
    moves-settles g.D.Desk.state g.D.Desk.bond g.D.Desk.sound c.args.actors.now c.loop-made.actors
    (settling-moves g.D.Desk.state g.D.Desk.bond g.D.Desk.sound c.args.names.now c.args.actors.now c.loop-made.actors c.loop-made.made (let some = c.requires.sweeps in let end = c.loop-made-test.false in omega (arith, some, end)) c.loop-made.invariant)

pub returns-clause-moves : goal.returns-clause-moves
returns-clause-moves g c = λ moved.
    settling-moves g.D.Desk.state g.D.Desk.bond g.D.Desk.sound c.args.names.now c.args.actors.now c.loop-made.actors c.loop-made.made (let some = c.requires.sweeps in let end = c.loop-made-test.false in omega (arith, some, end)) c.loop-made.invariant
