use Rattle.std.proofs.Common.{◌≡◌, refl, rules, subst}
use Rattle.tc_desk.specs.Desks.{Makes}
use Rattle.tc_desk.specs.declared.desks.Served.{Served}
use Rattle.tc_desk.specs.declared.rows.Refusal.TheVariants as refusal
use Rattle.tc_session.proofs.Coming.{refused, served, some_row, waits_so}
use Rattle.tc_session.proofs.Pending.{pends_last, pends_made, pends_refused}
use Rattle.tc_session.proofs.answering.answer_call.Goals as goal

pub push_last-requires : goal.push_last-requires
push_last-requires g c = some_row _ _ _ _ _ _ c.in-Ok-Replied.ensures.became c.log.ensures

pub returns-in-Ok-Replied-clause-came : goal.returns-in-Ok-Replied-clause-came
returns-in-Ok-Replied-clause-came g c = served _ _ _ _ _ _ _ _ _ c.in-Ok-Replied.ensures.became c.log.ensures c.push_last.ensures

pub returns-in-Ok-Replied-clause-pends : goal.returns-in-Ok-Replied-clause-pends
returns-in-Ok-Replied-clause-pends g c =
    let d = g.D.Desk.state c.args.desk.now in
    let e = g.D.Desk.state c.call.new.self in
    pends_made d c.args.centre.now c.args.ask e c.args.pending.now
    (subst (λ (how : Served). Makes d c.args.centre.now c.args.ask how e) c.in-Ok-Replied.field-0-is c.in-Ok-Replied.ensures.became)
    c.requires.pends

pub returns-in-Ok-Pending-clause-came : goal.returns-in-Ok-Pending-clause-came
returns-in-Ok-Pending-clause-came g c =
    let d = g.D.Desk.state c.args.desk.now in
    let e = g.D.Desk.state c.call.new.self in
    waits_so d c.args.centre.now c.args.ask e _ _
    (subst (λ (how : Served). Makes d c.args.centre.now c.args.ask how e) c.in-Ok-Pending.field-0-is c.in-Ok-Pending.ensures.became)
    c.push_words.ensures

pub returns-in-Ok-Pending-clause-pends : goal.returns-in-Ok-Pending-clause-pends
returns-in-Ok-Pending-clause-pends g c =
    let d = g.D.Desk.state c.args.desk.now in
    let e = g.D.Desk.state c.call.new.self in
    pends_last d c.args.centre.now c.args.ask e c.log-in-Ok-Pending.result.now _
    (subst (λ (how : Served). Makes d c.args.centre.now c.args.ask how e) c.in-Ok-Pending.field-0-is c.in-Ok-Pending.ensures.became)
    c.log-in-Ok-Pending.ensures refl

pub returns-else-eq-clause-came : goal.returns-else-eq-clause-came
returns-else-eq-clause-came g c =
    let not : c.in-Err.why ≡ refusal.NoMemory → ⊥ = search rules in
    refused _ _ _ _ _ _ _ _ c.in-Err.ensures.became not c.push_refusal.ensures

pub returns-else-eq-clause-pends : goal.returns-else-eq-clause-pends
returns-else-eq-clause-pends g c =
    pends_refused (g.D.Desk.state c.args.desk.now) c.args.centre.now c.args.ask c.in-Err.why (g.D.Desk.state c.call.new.self) c.args.pending.now
    c.in-Err.ensures.became c.requires.pends

pub returns-then-eq-clause-pends : goal.returns-then-eq-clause-pends
returns-then-eq-clause-pends g c =
    pends_refused (g.D.Desk.state c.args.desk.now) c.args.centre.now c.args.ask c.in-Err.why (g.D.Desk.state c.call.new.self) c.args.pending.now
    c.in-Err.ensures.became c.requires.pends
