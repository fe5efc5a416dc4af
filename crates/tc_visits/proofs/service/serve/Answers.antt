use Rattle.std.proofs.Common.{◌≡◌, ◌∙◌, length, ap, sym}
use Rattle.std.proofs.lemmas.Bool.{eqb-true}
use Rattle.tc_desk.specs.Logs.{rows_of}
use Rattle.tc_visits.specs.Service.{door_of}
use Rattle.tc_visits.proofs.Outcomes.{no-service}
use Rattle.tc_visits.proofs.service.serve.Goals as goal

pub returns-then-is_empty-clause-service : goal.returns-then-is_empty-clause-service
returns-then-is_empty-clause-service g c =
    let opened = c.args.opened in
    let none : length opened.plan.agents ≡ 0 =
    ap length (sym c.agents.ensures.agents) ∙ eqb-true (length c.agents.result.now) 0 (sym c.is_empty.ensures ∙ c.if-is_empty.true) in
    no-service opened.plan opened.cores.items (rows_of opened.logs.items) (door_of g.D.Door.opened g.D.Door.door_faults c.args.door.now) none
    c.requires.fresh.may.goes.going.follow.whole (c.requires.fresh.may.none none)
