use Rattle.std.proofs.Common.{arith}
use Rattle.tc_model.specs.Goals.{Scene}
use Rattle.tc_body.proofs.Steps.{put_yes, take_yes, read_yes, absent_yes, absent_no}
use Rattle.tc_body.proofs.goal.step.Goals as goal

pub returns-in-OutR-clause-done : goal.returns-in-OutR-clause-done
returns-in-OutR-clause-done g c =
    let scene : Scene = record { vars = c.args.vars; event = c.args.e.now; setting = c.args.context.now } in
    rw c.in-OutR.is (put_yes scene c.args.store.now c.args.bag.now c.args.effects.now.items c.requires.width c.requires.solvable c.in-OutR.t c.put.new.bag c.put.new.effects.items c.put.result c.put.ensures.put)

pub returns-in-InR-clause-done : goal.returns-in-InR-clause-done
returns-in-InR-clause-done g c =
    let scene : Scene = record { vars = c.args.vars; event = c.args.e.now; setting = c.args.context.now } in
    rw c.in-InR.is (take_yes scene c.args.store.now c.args.bag.now c.args.effects.now.items c.requires.width c.requires.solvable c.in-InR.t c.take_oldest.new.store c.take_oldest.new.bag c.take_oldest.new.effects.items c.take_oldest.result c.take_oldest.ensures.solvable c.take_oldest.ensures.taken)

pub returns-in-RdR-clause-done : goal.returns-in-RdR-clause-done
returns-in-RdR-clause-done g c =
    let scene : Scene = record { vars = c.args.vars; event = c.args.e.now; setting = c.args.context.now } in
    rw c.in-RdR.is (read_yes scene c.args.store.now c.args.bag.now c.args.effects.now.items c.requires.width c.requires.solvable c.in-RdR.t c.read_oldest.new.store c.read_oldest.new.effects.items c.read_oldest.result c.read_oldest.ensures.solvable c.read_oldest.ensures.read)

pub returns-in-NoR-clause-done : goal.returns-in-NoR-clause-done
returns-in-NoR-clause-done g c =
    let scene : Scene = record { vars = c.args.vars; event = c.args.e.now; setting = c.args.context.now } in
    rw c.in-NoR.is (absent_yes scene c.args.store.now c.args.bag.now c.args.effects.now.items c.requires.width c.requires.solvable c.in-NoR.t c.is_absent.new.store c.is_absent.result c.is_absent.ensures.same c.is_absent.ensures.none)

pub returns-in-NoR-clause-stuck : goal.returns-in-NoR-clause-stuck
returns-in-NoR-clause-stuck g c =
    let scene : Scene = record { vars = c.args.vars; event = c.args.e.now; setting = c.args.context.now } in
    rw c.in-NoR.is (absent_no scene c.args.store.now c.args.bag.now c.args.effects.now.items c.requires.width c.requires.solvable c.in-NoR.t c.is_absent.result c.is_absent.ensures.some)

pub returns-in-InR-clause-counted : goal.returns-in-InR-clause-counted
returns-in-InR-clause-counted g c = rw c.in-InR.is (omega (arith, c.take_oldest.ensures.tried))

pub returns-in-RdR-clause-counted : goal.returns-in-RdR-clause-counted
returns-in-RdR-clause-counted g c = rw c.in-RdR.is (omega (arith, c.read_oldest.ensures.tried))

pub returns-in-NoR-clause-counted : goal.returns-in-NoR-clause-counted
returns-in-NoR-clause-counted g c = rw c.in-NoR.is (omega (arith, c.is_absent.ensures.tried))
