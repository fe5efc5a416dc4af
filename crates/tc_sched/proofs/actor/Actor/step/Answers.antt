use Rattle.std.proofs.Common.{◌∙◌, sym, subst}
use Rattle.tc_desk.specs.Desks.{Gets}
use Rattle.tc_sched.specs.Clients.{Client}
use Rattle.tc_sched.proofs.Desks.{HasTurns, answered-actor, next-inside, ready-turns, stepped, Stepped, turn-left}
use Rattle.tc_sched.proofs.actor.Actor.step.Given.{Over}
use Rattle.tc_sched.proofs.actor.Actor.step.Goals as goal
use Rattle.tc_sched.proofs.actor.Actor.step.Goals.{After-moved}

pub invariant_of-self : goal.invariant_of-self
invariant_of-self g c =
    let d = g.D.Desk.state c.self.inside.desk in
    let e = g.D.Desk.state c.look.new.self in
    let looks = rw c.in-Ok-Answered.field-0-is at c.in-Ok-Answered.ensures.became in
    let gets : Gets d e = looks.0 in
    answered-actor d e c.self.inside.scripts.now gets.reply c.self.invariant.rows gets.answered c.self.inside.asker c.self.invariant c.look.ensures.kept.names

pub unreachable-requires-in-Err-TurnsSpent : goal.unreachable-requires-in-Err-TurnsSpent
unreachable-requires-in-Err-TurnsSpent g c =
    let stays = rw c.in-Err-TurnsSpent.field-0-is at c.in-Err-TurnsSpent.ensures.became in
    let spent = stays.can.0 in
    let turns = subst (λ (v : Client g.row.D.Denot). HasTurns (g.D.Desk.state v.desk)) (sym c.self.view_is)
    (ready-turns g.D.Desk.state c.args.names.now c.args.self.now c.requires.ready) in
    turn-left (g.D.Desk.state c.self.inside.desk) spent.row.centre turns spent.none

pub call_at-called-requires-clause-inside : goal.call_at-called-requires-clause-inside
call_at-called-requires-clause-inside g c =
    next-inside g.D.Desk.state c.args.names.now c.args.self.now (record { desk = c.self-2.inside.desk; agent = c.self-2.inside.agent; scripts = c.self-2.inside.scripts.now }) c.in_ok-next.field-0 c.in-Some.next
    (c.self-2.view_is ∙ c.next_ask.ensures.same) c.requires.ready c.in-Some.is c.in_ok-next.ensures.some

-- what has come of the call
came : (g : Over) (c : After-moved g)
    → Stepped g.D.Desk.state g.D.Desk.bond g.D.Desk.sound c.args.self.now
    (record { desk = c.self-2.inside.desk; agent = c.self-2.inside.agent; scripts = c.self-2.inside.scripts.now })
    c.call_at-called.new.self c.self-2.inside.asker c.moved.result
came g c =
    stepped g.D.Desk.state g.D.Desk.bond g.D.Desk.sound c.args.self.now
    (record { desk = c.self-2.inside.desk; agent = c.self-2.inside.agent; scripts = c.self-2.inside.scripts.now })
    c.call_at-called.new.self c.self-2.inside.asker (c.self-2.view_is ∙ c.next_ask.ensures.same)
    (record {
      bound = c.call_at-called.ensures.bond;
      kept = c.call_at-called.ensures.kept;
      spent = c.call_at-called.ensures.turns;
      sound = c.call_at-called.ensures.sound;
    })
    c.self-2.invariant c.args.names.now c.in_ok-next.field-0 c.in-Some.next c.call_at-called.result c.moved.result c.requires.ready
    (sym c.is_waiting.ensures ∙ c.if-is_waiting.false) c.in-Some.is c.in_ok-next.ensures.some
    c.call_at-called.ensures.became c.moved.ensures.moved c.moved.ensures.memory

pub invariant_of-self-2 : goal.invariant_of-self-2
invariant_of-self-2 g c = (came g (goal.at.invariant_of-self-2 g c).After-moved).actor

pub returns-clause-went : goal.returns-clause-went
returns-clause-went g c = (came g (goal.at.returns-clause-went g c).After-moved).went

pub returns-clause-steps : goal.returns-clause-steps
returns-clause-steps g c = (came g (goal.at.returns-clause-steps g c).After-moved).steps

pub returns-clause-less : goal.returns-clause-less
returns-clause-less g c = (came g (goal.at.returns-clause-less g c).After-moved).less

pub returns-clause-same : goal.returns-clause-same
returns-clause-same g c = (came g (goal.at.returns-clause-same g c).After-moved).same
