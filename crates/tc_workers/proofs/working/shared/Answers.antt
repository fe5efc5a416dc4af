use Rattle.std.proofs.Common.{◌∙◌, arith}
use Rattle.tc_desk.specs.Logs.{rows_of}
use Rattle.tc_site.proofs.Configured.{fresh-cores}
use Rattle.tc_workers.proofs.Sharing.{can-drive, closed-goes}
use Rattle.tc_workers.proofs.working.shared.Goals as goal

pub of_cores-requires : goal.of_cores-requires
of_cores-requires g c =
    let plan = c.args.opened.plan in
    record {
      fresh =
          fresh-cores plan c.agents-agents.ensures.config c.args.opened.cores.items (c.requires.fresh.may.goes.are c.requires.some) c.in_ok-names.names.items c.agents-agents.result.now
          c.in_ok-names.ensures c.agents-agents.ensures.agents c.requires.fresh.unserved;
    }

pub drive_all-requires-clause-can : goal.drive_all-requires-clause-can
drive_all-requires-clause-can g c κs within =
    let site = c.in_ok-site.ensures.site in
    can-drive c.args.opened.plan c.agents-agents.ensures.config c.in_ok-site.site c.agents-agents.result.now
    (site.names_are ∙ c.in_ok-names.ensures) (site.roles_are) c.agents-agents.ensures.agents

pub returns-clause-goes : goal.returns-clause-goes
returns-clause-goes g c =
    let plan = c.args.opened.plan in
    let copied = c.in_ok-names.names.items in
    let fresh = c.args.opened.cores.items in
    let cores = c.in_ok-cores.field-0.cores.items in
    let logs = rows_of c.in_ok-cores.field-0.logs.items in
    record {
      goes =
          closed-goes plan c.agents-agents.ensures.config c.requires.some c.in_ok-site.site copied fresh cores c.agents-agents.result.now c.in_ok-roles.roles
          c.in_ok-names.ensures c.agents-agents.ensures.agents (c.in_ok-roles.ensures ∙ c.roles.ensures)
          c.in_ok-site.ensures.site c.requires.fresh.may.goes.are c.in_ok-cores.ensures.closed logs c.in_ok-ended.ended.items c.in_ok-ended.ensures
          c.in_ok-cores.ensures.logs c.in_ok-cores.ensures.agree;
      none = λ no_agent. absurd (omega (arith, c.requires.some, no_agent));
    }
