use denote.Param.Send.{sendable}
use Rattle.std.proofs.Common.{◌≡◌, ◌∙◌, ◌+◌, ◌*◌, ℕ, true, List, All, map, sym, ap, subst, rules}
use Rattle.tc_lists.proofs.Parts.{take-append_all}
use Rattle.tc_lists.proofs.Results.{IfOk-both}
use Rattle.tc_sched.specs.Steps.{IsReady, left_in}
use Rattle.tc_site.specs.Desks.{desk_of}
use Rattle.tc_workers.specs.Crews.{AreLeft, HasRows, ended_of}
use Rattle.tc_site.proofs.Configured.{permits_by}
use Rattle.tc_workers.proofs.Grants.{Driven, Member}
use Rattle.tc_workers.proofs.Driven.{driven-free, driven-left, ready}
use Rattle.tc_workers.proofs.Sends.{roles_desk_send}
use Rattle.tc_workers.proofs.crew.drive_all.Goals as goal

pub drive_called-requires-clause-ready : goal.drive_called-requires-clause-ready
drive_called-requires-clause-ready g c κs within =
    let crew = c.in_ok-crew.crew.items in
    subst (λ (cs : List Member). All (IsReady desk_of (3 * left_in desk_of cs + 2) c.names.result.now) cs) (sym c.deref_mut.ensures.value)
    (subst (λ (ns : List (List ℕ)). All (IsReady desk_of (3 * left_in desk_of crew + 2) ns) crew) (sym c.names.ensures.names)
    (ready permits_by c.args.site.now c.args.agents.now crew c.requires.can c.in_ok-crew.ensures))

pub end_all-requires : goal.end_all-requires
end_all-requires g c =
    let crew : List Member = c.in_ok-crew.crew.items in
    let news : List Member = c.drive_called.new.actors in
    let same = take-append_all news crew c.in_ok-crew.crew.len (search rules) (search rules) in
    let went : Driven crew news = subst (λ (cs : List Member). Driven cs news) c.deref_mut.ensures.value c.in_ok-drive_called.ensures.went in
    record {
      free = subst (All (λ (m : Member). (desk_of m.desk).free ≡ true)) (sym same)
          (driven-free permits_by c.args.site.now c.args.agents.now crew news (3 * left_in desk_of crew + 2) c.requires.can c.in_ok-crew.ensures went);
    }

pub returns : goal.returns
returns g c =
    let crew : List Member = c.in_ok-crew.crew.items in
    let news : List Member = c.drive_called.new.actors in
    let agents = c.args.agents.now in
    let same = take-append_all news crew c.in_ok-crew.crew.len (search rules) (search rules) in
    let went : Driven crew news = subst (λ (cs : List Member). Driven cs news) c.deref_mut.ensures.value c.in_ok-drive_called.ensures.went in
    IfOk-both c.end_all.result _ _ _
    (λ r ended rows.
    subst (AreLeft permits_by c.args.site.now agents) (sym (ended ∙ ap (map ended_of) same))
    (driven-left permits_by c.args.site.now agents crew news (3 * left_in desk_of crew + 2) c.requires.can c.in_ok-crew.ensures went
    (subst (All HasRows) same rows)))
    c.end_all.ensures.ended c.end_all.ensures.rows

pub drive_called-requires-send-D : goal.drive_called-requires-send-D
drive_called-requires-send-D g c κs within = search (sendable, roles_desk_send) depth 20
