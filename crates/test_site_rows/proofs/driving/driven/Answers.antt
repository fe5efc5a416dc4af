use denote.Param.Send.{sendable}
use Rattle.std.proofs.Common.{◌+◌, ◌*◌, ◌++◌, ℕ, List, All, length, take, drop, sym, subst, rules}
use Rattle.tc_config.specs.declared.configs.AgentConf.{AgentConf}
use Rattle.tc_lists.proofs.Parts.{take-append_all}
use Rattle.tc_sched.specs.Steps.{IsReady, left_in}
use Rattle.tc_site.specs.Desks.{desk_of}
use Rattle.tc_workers.specs.Crews.{CanDrive}
use Rattle.tc_workers.proofs.Driven.{ready}
use Rattle.tc_site.proofs.Configured.{permits_by}
use Rattle.tc_workers.proofs.Grants.{Driven, Member}
use Rattle.tc_workers.proofs.Sends.{roles_desk_send}
use Rattle.test_site_rows.proofs.Driven.{ready-again}
use Rattle.test_site_rows.proofs.driving.driven.Goals as goal

pub drive-requires-send-D : goal.drive-requires-send-D
drive-requires-send-D g c κs within = search (sendable, roles_desk_send) depth 20

pub drive-requires-clause-ready : goal.drive-requires-clause-ready
drive-requires-clause-ready g c κs within =
    let crew = c.in_ok-crew.crew.items in
    let can = subst (λ (xs : List AgentConf). CanDrive c.args.setting.site xs) (sym c.agents.ensures.agents) c.requires.can in
    subst (λ (cs : List Member). All (IsReady desk_of (3 * left_in desk_of cs + 2) c.names.result.now) cs) (sym c.deref_mut.ensures.value)
    (subst (λ (ns : List (List ℕ)). All (IsReady desk_of (3 * left_in desk_of crew + 2) ns) crew) (sym c.names.ensures.names)
    (ready permits_by c.args.setting.site c.agents.result.now crew can c.in_ok-crew.ensures))

pub last_steps-requires : goal.last_steps-requires
last_steps-requires g c =
    let crew : List Member = c.in_ok-crew.crew.items in
    let news : List Member = c.drive.new.actors in
    let can = subst (λ (xs : List AgentConf). CanDrive c.args.setting.site xs) (sym c.agents.ensures.agents) c.requires.can in
    let same = take-append_all news crew c.in_ok-crew.crew.len (search rules) (search rules) in
    let went : Driven crew news = subst (λ (cs : List Member). Driven cs news) c.deref_mut.ensures.value c.in_ok-drive.ensures.went in
    subst (λ (ns : List (List ℕ)). All (IsReady desk_of 1 ns) (take c.in_ok-crew.crew.len (news ++ drop (length news) crew))) (sym c.names-2.ensures.names)
    (subst (All (IsReady desk_of 1 c.args.setting.site.names)) (sym same)
    (ready-again permits_by c.args.setting.site c.agents.result.now crew news can c.in_ok-crew.ensures went))
