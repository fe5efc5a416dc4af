use Rattle.std.proofs.Common.{IfOk, OnErr, sym, subst}
use Rattle.tc_shared.specs.Passes.{CallsInTurn, SeesRoom}
use Rattle.tc_site.specs.Turns.{IsTurn}
use Rattle.tc_site.proofs.Calling.{grown-call, room-call, turn-call}
use Rattle.tc_site.proofs.turns.turn_at.Goals as goal

pub returns-clause-turn : goal.returns-clause-turn
returns-clause-turn g c =
    subst (λ r. IfOk r (λ became. IsTurn c.args.centre.now c.args.pass.now c.args.number c.args.op became c.call-answer.new.pass))
    (sym c.came_to.ensures)
    (turn-call c.args.centre.now c.args.pass.now c.call-answer.new.pass c.args.number c.args.op c.call-answer.result
    c.call-answer.ensures.served c.call-answer.ensures.refused)

pub returns-clause-room : goal.returns-clause-room
returns-clause-room g c =
    subst (λ r. OnErr r (SeesRoom c.args.centre.now c.args.pass.now c.call-answer.new.pass)) (sym c.came_to.ensures)
    (room-call c.args.centre.now c.args.pass.now c.call-answer.new.pass c.args.number c.args.op c.call-answer.result
    c.call-answer.ensures.refused)

pub returns-clause-grown : goal.returns-clause-grown
returns-clause-grown g c top is =
    grown-call c.args.centre.now c.args.pass.now c.call-answer.new.pass top c.args.op c.call-answer.result
    (subst (λ n. IfOk c.call-answer.result (λ told. CallsInTurn c.args.centre.now c.args.pass.now n c.args.op told c.call-answer.new.pass)) is
    c.call-answer.ensures.served)
    c.call-answer.ensures.refused
