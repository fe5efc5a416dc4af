use Rattle.std.proofs.Common.{◌≡◌, ◌∙◌, List, Vec, not, ap, refl, sym, subst, map, inl, arith}
use Rattle.std.specs.Global.{Global}
use Rattle.std.specs.List.{list_any}
use Rattle.std.proofs.lemmas.List.{length-map}
use Rattle.tc_centre.specs.Centre.{Centre}
use Rattle.tc_config.specs.Configurations.{centre_names}
use Rattle.tc_desk.specs.Logs.{rows_of}
use Rattle.tc_desk.specs.declared.rows.LogRow.{LogRow}
use Rattle.tc_lists.proofs.Results.{OnErr-always}
use Rattle.tc_policy.specs.declared.grants.Grant.{Grant}
use Rattle.tc_runner.specs.Cores.{AreCores, histories}
use Rattle.tc_site.proofs.Configured.{fresh-cores}
use Rattle.tc_site.specs.Settling.{AreSettled}
use Rattle.tc_site.specs.Sites.{AllAgree, AreOfSite, EndedDeskState, core_histories}
use Rattle.tc_visits.specs.Service.{IsServiceBy, door_of, lacked_memory}
use Rattle.tc_visits.specs.Visits.{VisitState}
use Rattle.tc_visits.proofs.Desks.{desks-of, idle-of, kits-of}
use Rattle.tc_visits.proofs.Doors.{served-door}
use Rattle.tc_visits.proofs.Outcomes.{cores-are, cores-named, emptiness, is-service-by, logs-count, logs-few}
use Rattle.tc_visits.proofs.service.serve_some.Goals as goal

-- the logs that the desks leave
left-logs : {ended desks : List (EndedDeskState (List Grant))} {logs : List (List LogRow)} → ended ≡ desks
    → logs ≡ map (λ (e : EndedDeskState (List Grant)). e.log) ended → logs ≡ map (λ (e : EndedDeskState (List Grant)). e.log) desks
left-logs same are = are ∙ ap (map (λ (e : EndedDeskState (List Grant)). e.log)) same

pub of_cores-requires : goal.of_cores-requires
of_cores-requires g c = record {
  fresh =
      fresh-cores c.args.opened.plan c.agents.ensures.config c.args.opened.cores.items (c.requires.fresh.may.goes.are c.requires.some)
      c.in_ok-names.names.items c.agents.result.now c.in_ok-names.ensures c.agents.ensures.agents c.requires.fresh.unserved;
}

pub serve_all-requires-after_bounds : goal.serve_all-requires-after_bounds
serve_all-requires-after_bounds g c κs within = kits-of c.in_ok-site.site c.in_ok-site.kits.items c.in_ok-site.ensures.kits

pub end_all-requires : goal.end_all-requires
end_all-requires g c =
    idle-of c.in_ok-site.site c.in_ok-site.kits.items c.in_ok-site.ensures.kits c.in_ok-visits.field-0.visits.items c.in_ok-visits.field-0.idle.items
    c.in_ok-visits.ensures.served.kits_are

pub close-requires : goal.close-requires
close-requires g c = record {
  all =
      subst (AreOfSite (λ (e : EndedDeskState (List Grant)). e.site) (λ (e : EndedDeskState (List Grant)). e.agent) c.in_ok-site.site) (sym c.in_ok-ended.ensures.ended)
      (desks-of c.in_ok-site.site c.in_ok-site.kits.items c.in_ok-site.ensures.kits c.in_ok-visits.field-0.visits.items c.in_ok-visits.field-0.idle.items
      c.in_ok-visits.ensures.served.kits_are);
}

pub settle-requires-clause-named : goal.settle-requires-clause-named
settle-requires-clause-named g c =
    let plan = c.args.opened.plan in
    let config = c.agents.ensures.config in
    let s = c.in_ok-site.site in
    let fresh = c.args.opened.cores.items in
    let kits = c.in_ok-site.kits.items in
    let visits = c.in_ok-visits.field-0.visits.items in
    let idle = c.in_ok-visits.field-0.idle.items in
    let cores = c.in_ok-closed.closed.cores.items in
    let olds = rows_of c.in_ok-closed.closed.logs.items in
    cores-named plan config c.requires.some s c.in_ok-names.names.items fresh cores c.agents.result.now c.in_ok-roles.roles
    c.in_ok-names.ensures c.agents.ensures.agents (c.in_ok-roles.ensures ∙ c.roles.ensures) c.in_ok-site.ensures.site c.requires.fresh.may.goes.are
    c.in_ok-closed.ensures.closed kits c.in_ok-site.ensures.kits visits idle c.in_ok-visits.ensures.served.kits_are olds
    (left-logs c.in_ok-ended.ensures.ended c.in_ok-closed.ensures.logs)
    c.centres.result.now c.centres.ensures.names

pub settle-requires-clause-few : goal.settle-requires-clause-few
settle-requires-clause-few g c =
    let plan = c.args.opened.plan in
    let config = c.agents.ensures.config in
    let s = c.in_ok-site.site in
    let fresh = c.args.opened.cores.items in
    let kits = c.in_ok-site.kits.items in
    let visits = c.in_ok-visits.field-0.visits.items in
    let idle = c.in_ok-visits.field-0.idle.items in
    let cores = c.in_ok-closed.closed.cores.items in
    let olds = rows_of c.in_ok-closed.closed.logs.items in
    let few =
    logs-few plan config c.requires.some s c.in_ok-names.names.items fresh cores c.agents.result.now c.in_ok-roles.roles
    c.in_ok-names.ensures c.agents.ensures.agents (c.in_ok-roles.ensures ∙ c.roles.ensures) c.in_ok-site.ensures.site c.requires.fresh.may.goes.are
    c.in_ok-closed.ensures.closed kits c.in_ok-site.ensures.kits visits idle c.in_ok-visits.ensures.served.kits_are olds
    (left-logs c.in_ok-ended.ensures.ended c.in_ok-closed.ensures.logs) in
    omega (arith, few, length-map c.in_ok-closed.closed.logs.items (λ (log : Vec LogRow Global). log.items))

pub returns-clause-service : goal.returns-clause-service
returns-clause-service g c =
    let plan = c.args.opened.plan in
    let config = c.agents.ensures.config in
    let s = c.in_ok-site.site in
    let fresh = c.args.opened.cores.items in
    let kits = c.in_ok-site.kits.items in
    let visits = c.in_ok-visits.field-0.visits.items in
    let idle = c.in_ok-visits.field-0.idle.items in
    let cores = c.in_ok-closed.closed.cores.items in
    let olds = rows_of c.in_ok-closed.closed.logs.items in
    let news = rows_of c.settle.new.self.logs.items in
    let door = door_of g.D.Door.opened g.D.Door.door_faults c.args.door.now in
    let after = door_of g.D.Door.opened g.D.Door.door_faults c.serve_all.new.door in
    let same : c.settle.new.self.cores.items ≡ cores = ap (λ (v : Vec Centre Global). v.items) c.settle.ensures.cores in
    let settled : AreSettled (centre_names plan) (core_histories cores) olds news =
    subst (λ ns. AreSettled ns (core_histories cores) olds news) c.centres.ensures.names c.in_ok-settle.ensures.settled in
    let agree : AllAgree (centre_names plan) cores news =
    subst (λ cs. AllAgree (centre_names plan) cs news) same (subst (λ ns. AllAgree ns c.settle.new.self.cores.items news) c.centres.ensures.names c.settle.ensures.agree) in
    subst (λ cs. IsServiceBy door after c.is_empty-all.result c.found_memory-enough.result plan (histories plan cs) news) (sym same)
    (is-service-by plan config c.requires.some s c.in_ok-names.names.items fresh cores c.agents.result.now c.in_ok-roles.roles
    c.in_ok-names.ensures c.agents.ensures.agents (c.in_ok-roles.ensures ∙ c.roles.ensures) c.in_ok-site.ensures.site c.requires.fresh.may.goes.are
    c.in_ok-closed.ensures.closed kits c.in_ok-site.ensures.kits visits idle c.in_ok-visits.ensures.served.kits_are olds
    (left-logs c.in_ok-ended.ensures.ended c.in_ok-closed.ensures.logs)
    c.in_ok-ended.ensures.visits news c.in_ok-closed.ensures.agree settled agree door after c.in_ok-visits.ensures.served c.is_empty-all.result c.found_memory-enough.result
    (emptiness idle c.in_ok-visits.field-0.idle.len c.is_empty-all.result c.in_ok-visits.field-0.idle.ok.0 c.is_empty-all.ensures)
    (c.found_memory-enough.ensures ∙ ap (λ vs. not (list_any (λ (v : VisitState). lacked_memory v.end) vs)) c.deref.ensures.value))

pub returns-clause-cores : goal.returns-clause-cores
returns-clause-cores g c =
    let plan = c.args.opened.plan in
    let config = c.agents.ensures.config in
    let s = c.in_ok-site.site in
    let fresh = c.args.opened.cores.items in
    let kits = c.in_ok-site.kits.items in
    let visits = c.in_ok-visits.field-0.visits.items in
    let idle = c.in_ok-visits.field-0.idle.items in
    let cores = c.in_ok-closed.closed.cores.items in
    let olds = rows_of c.in_ok-closed.closed.logs.items in
    let news = rows_of c.settle.new.self.logs.items in
    let same : c.settle.new.self.cores.items ≡ cores = ap (λ (v : Vec Centre Global). v.items) c.settle.ensures.cores in
    record {
      are = subst (AreCores plan) (sym same) (cores-are plan config c.requires.some s c.in_ok-names.names.items fresh cores c.agents.result.now c.in_ok-roles.roles
          c.in_ok-names.ensures c.agents.ensures.agents (c.in_ok-roles.ensures ∙ c.roles.ensures) c.in_ok-site.ensures.site c.requires.fresh.may.goes.are
          c.in_ok-closed.ensures.closed kits c.in_ok-site.ensures.kits visits idle c.in_ok-visits.ensures.served.kits_are olds
          (left-logs c.in_ok-ended.ensures.ended c.in_ok-closed.ensures.logs));
      none = λ no. absurd (omega (arith, c.requires.some, no));
      whole = c.in_ok-settle.ensures.settled.whole ∙ logs-count plan config c.requires.some s c.in_ok-names.names.items fresh cores c.agents.result.now c.in_ok-roles.roles
          c.in_ok-names.ensures c.agents.ensures.agents (c.in_ok-roles.ensures ∙ c.roles.ensures) c.in_ok-site.ensures.site c.requires.fresh.may.goes.are
          c.in_ok-closed.ensures.closed kits c.in_ok-site.ensures.kits visits idle c.in_ok-visits.ensures.served.kits_are olds
          (left-logs c.in_ok-ended.ensures.ended c.in_ok-closed.ensures.logs);
    }

pub returns-in_err-names-clause-door : goal.returns-in_err-names-clause-door
returns-in_err-names-clause-door g c = OnErr-always _ _ (inl refl)

pub returns-in_err-roles-clause-door : goal.returns-in_err-roles-clause-door
returns-in_err-roles-clause-door g c = OnErr-always _ _ (inl refl)

pub returns-in_err-site-clause-door : goal.returns-in_err-site-clause-door
returns-in_err-site-clause-door g c = OnErr-always _ _ (inl refl)

pub returns-in_err-visits-clause-door : goal.returns-in_err-visits-clause-door
returns-in_err-visits-clause-door g c =
    OnErr-always _ _ (inl (ap (door_of g.D.Door.opened g.D.Door.door_faults) c.in_err-visits.ensures.same))

pub returns-in_err-ended-clause-door : goal.returns-in_err-ended-clause-door
returns-in_err-ended-clause-door g c =
    OnErr-always _ _
    (served-door c.in_ok-names.names.items c.args.opened.cores.items c.agents.result.now c.args.opened.plan.agents c.in_ok-roles.roles c.in_ok-site.site
    c.in_ok-site.kits.items c.in_ok-site.ensures.site c.in_ok-site.ensures.kits c.agents.ensures.agents
    (door_of g.D.Door.opened g.D.Door.door_faults c.args.door.now) (door_of g.D.Door.opened g.D.Door.door_faults c.serve_all.new.door)
    c.in_ok-visits.field-0.visits.items c.in_ok-visits.field-0.idle.items c.in_ok-visits.ensures.served)

pub returns-in_err-closed-clause-door : goal.returns-in_err-closed-clause-door
returns-in_err-closed-clause-door g c =
    OnErr-always _ _
    (served-door c.in_ok-names.names.items c.args.opened.cores.items c.agents.result.now c.args.opened.plan.agents c.in_ok-roles.roles c.in_ok-site.site
    c.in_ok-site.kits.items c.in_ok-site.ensures.site c.in_ok-site.ensures.kits c.agents.ensures.agents
    (door_of g.D.Door.opened g.D.Door.door_faults c.args.door.now) (door_of g.D.Door.opened g.D.Door.door_faults c.serve_all.new.door)
    c.in_ok-visits.field-0.visits.items c.in_ok-visits.field-0.idle.items c.in_ok-visits.ensures.served)

pub returns-in_err-settle-clause-door : goal.returns-in_err-settle-clause-door
returns-in_err-settle-clause-door g c =
    OnErr-always _ _
    (served-door c.in_ok-names.names.items c.args.opened.cores.items c.agents.result.now c.args.opened.plan.agents c.in_ok-roles.roles c.in_ok-site.site
    c.in_ok-site.kits.items c.in_ok-site.ensures.site c.in_ok-site.ensures.kits c.agents.ensures.agents
    (door_of g.D.Door.opened g.D.Door.door_faults c.args.door.now) (door_of g.D.Door.opened g.D.Door.door_faults c.serve_all.new.door)
    c.in_ok-visits.field-0.visits.items c.in_ok-visits.field-0.idle.items c.in_ok-visits.ensures.served)
