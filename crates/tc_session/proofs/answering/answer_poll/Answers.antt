use Rattle.std.proofs.Common.{ℕ, Option, sym, subst, Ok}
use Rattle.tc_desk.specs.Desks.{Polls}
use Rattle.tc_desk.specs.declared.desks.Seen.{Seen}
use Rattle.tc_session.specs.Answering.{PendsAt}
use Rattle.tc_session.proofs.Coming.{polled}
use Rattle.tc_session.proofs.Pending.{pends_still, pends_told, pends_unpolled, polled_within}
use Rattle.tc_session.proofs.answering.answer_poll.Goals as goal

pub push_answered-requires : goal.push_answered-requires
push_answered-requires g c =
    let d = g.D.Desk.state c.args.desk.now in
    let e = g.D.Desk.state c.poll.new.self in
    polled_within d e c.log.result.now c.take.result
    (subst (λ (s : Seen). Polls d (Ok s) e) c.in-Ok-Answered.field-0-is c.in-Ok-Answered.ensures.became)
    c.log.ensures (subst (λ (p : Option ℕ). PendsAt d.log p) (sym c.take.ensures.value) c.requires.pends)

pub returns-in-Ok-Answered-clause-came : goal.returns-in-Ok-Answered-clause-came
returns-in-Ok-Answered-clause-came g c =
    let d = g.D.Desk.state c.args.desk.now in
    let e = g.D.Desk.state c.poll.new.self in
    polled d e c.log.result.now c.take.result c.push_answered.result _ _
    (subst (λ (s : Seen). Polls d (Ok s) e) c.in-Ok-Answered.field-0-is c.in-Ok-Answered.ensures.became)
    c.log.ensures (subst (λ (p : Option ℕ). PendsAt d.log p) (sym c.take.ensures.value) c.requires.pends) c.push_answered.ensures

pub returns-in-Ok-Answered-clause-pends : goal.returns-in-Ok-Answered-clause-pends
returns-in-Ok-Answered-clause-pends g c =
    let d = g.D.Desk.state c.args.desk.now in
    let e = g.D.Desk.state c.poll.new.self in
    subst (λ (p : Option ℕ). PendsAt e.log p) (sym c.take.ensures.after)
    (pends_told d e (subst (λ (s : Seen). Polls d (Ok s) e) c.in-Ok-Answered.field-0-is c.in-Ok-Answered.ensures.became))

pub returns-in-Ok-StillPending-clause-pends : goal.returns-in-Ok-StillPending-clause-pends
returns-in-Ok-StillPending-clause-pends g c =
    let d = g.D.Desk.state c.args.desk.now in
    let e = g.D.Desk.state c.poll.new.self in
    pends_still d e c.args.pending.now
    (subst (λ (s : Seen). Polls d (Ok s) e) c.in-Ok-StillPending.field-0-is c.in-Ok-StillPending.ensures.became) c.requires.pends

pub returns-in-Err-Full-clause-pends : goal.returns-in-Err-Full-clause-pends
returns-in-Err-Full-clause-pends g c =
    pends_unpolled (g.D.Desk.state c.args.desk.now) (g.D.Desk.state c.poll.new.self) _ c.args.pending.now c.in-Err-Full.ensures.became c.requires.pends
