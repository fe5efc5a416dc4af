use Rattle.std.proofs.Common.{None}
use Rattle.tc_bag.specs.Stock.{tuples_of}
use Rattle.tc_model.specs.Goals.{Scene}
use Rattle.tc_replay.proofs.Steps.{put_moves, either_moves, absent_moves, free_moves}
use Rattle.tc_replay.proofs.Told.{not_false, not_true}
use Rattle.tc_replay.proofs.goal.is_stuck.Goals as goal

pub returns-in-OutR-clause-moves : goal.returns-in-OutR-clause-moves
returns-in-OutR-clause-moves g c =
    let scene : Scene = record { vars = c.args.vars; event = c.args.e.now; setting = c.args.context.now } in
    rw c.in-OutR.is (put_moves scene None c.args.store.now c.args.bag.now c.requires.width c.requires.solvable c.in-OutR.t c.has_no_value.result c.has_no_value.ensures.some)

pub returns-in-InR-clause-moves : goal.returns-in-InR-clause-moves
returns-in-InR-clause-moves g c =
    let scene : Scene = record { vars = c.args.vars; event = c.args.e.now; setting = c.args.context.now } in
    either_moves scene None c.args.store.now c.args.bag.now c.requires.width c.requires.solvable c.args.goal.now c.in-InR.t
    c.is_absent-in-InR.result c.in-InR.is c.is_absent-in-InR.ensures.some

pub returns-in_ok-is_absent-in-NoR-clause-moves : goal.returns-in_ok-is_absent-in-NoR-clause-moves
returns-in_ok-is_absent-in-NoR-clause-moves g c =
    let scene : Scene = record { vars = c.args.vars; event = c.args.e.now; setting = c.args.context.now } in
    rw c.in-NoR.is
    (λ is. absent_moves scene None c.args.store.now c.args.bag.now c.requires.width c.requires.solvable c.in-NoR.t
    (c.in_ok-is_absent-in-NoR.ensures.none (not_false c.in_ok-is_absent-in-NoR.field-0 is)))

pub returns-in_ok-succeeds-in_default-clause-stuck : goal.returns-in_ok-succeeds-in_default-clause-stuck
returns-in_ok-succeeds-in_default-clause-stuck g c =
    λ is es move step.
    c.in_ok-succeeds-in_default.ensures.stuck (not_true c.in_ok-succeeds-in_default.field-0 is) (tuples_of c.args.bag.now.now) es move step

pub returns-in_ok-succeeds-in_default-clause-moves : goal.returns-in_ok-succeeds-in_default-clause-moves
returns-in_ok-succeeds-in_default-clause-moves g c =
    let scene : Scene = record { vars = c.args.vars; event = c.args.e.now; setting = c.args.context.now } in
    λ is. free_moves scene None c.args.store.now c.args.bag.now c.requires.width c.requires.solvable
    c.args.goal.now c.succeeds.new.store
    (c.in_ok-succeeds-in_default.ensures.done (not_false c.in_ok-succeeds-in_default.field-0 is))
