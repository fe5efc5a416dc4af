use Rattle.std.proofs.Common.{ℕ, Option, sym, subst}
use Rattle.tc_session.specs.Answering.{PendsAt}
use Rattle.tc_session.proofs.Coming.{waited}
use Rattle.tc_session.proofs.Pending.{waited_within}
use Rattle.tc_session.proofs.answering.answer_wait.Goals as goal

pub push_answered-requires : goal.push_answered-requires
push_answered-requires g c =
    let d = g.D.Desk.state c.args.desk.now in
    waited_within d (g.D.Desk.state c.wait.new.self) c.log.result.now c.take.result c.in-Ok.ensures.became c.log.ensures
    (subst (λ (p : Option ℕ). PendsAt d.log p) (sym c.take.ensures.value) c.requires.pends)

pub returns-in-Ok-clause-came : goal.returns-in-Ok-clause-came
returns-in-Ok-clause-came g c =
    let d = g.D.Desk.state c.args.desk.now in
    waited d (g.D.Desk.state c.wait.new.self) c.log.result.now c.take.result c.push_answered.result _ _ c.in-Ok.ensures.became c.log.ensures
    (subst (λ (p : Option ℕ). PendsAt d.log p) (sym c.take.ensures.value) c.requires.pends) c.push_answered.ensures
