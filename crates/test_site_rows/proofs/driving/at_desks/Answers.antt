use Rattle.std.proofs.Common.{◌≡◌, ◌∙◌, ◌∷◌, List, length, refl, sym, ap, subst, rules, arith}
use Rattle.tc_config.specs.declared.configs.AgentConf.{AgentConf}
use Rattle.tc_policy.specs.declared.grants.Grant.{Grant}
use Rattle.tc_sched.specs.Clients.{Client}
use Rattle.tc_site.specs.Desks.{AgentState, IsNewDesk, IsDecidedLog, desk_of}
use Rattle.tc_site.specs.Sites.{KitState}
use Rattle.tc_workers.specs.Crews.{IsAtDesk}
use Rattle.tc_site.proofs.Configured.{permits_by}
use Rattle.test_site_rows.proofs.Seated.{Seated, seated-more}
use Rattle.test_site_rows.proofs.driving.at_desks.Goals as goal

pub loop-kit-preserved : goal.loop-kit-preserved
loop-kit-preserved c =
    let s = c.args.site.now in
    let all = c.args.agents.now in
    let crew = c.loop-kit.crew.items in
    let rest = c.next.new.self.rest.items in
    let left = c.next-in-loop-kit.new.self.rest.now in
    let agent = c.in-Some-next.agent.now in
    let member = c.new.result in
    let agents : c.loop-kit.agents.rest.now ≡ agent ∷ left = search rules in
    let kits : Seated permits_by s all (c.in-Some.kit ∷ rest) c.loop-kit.agents.rest.now crew =
    subst (λ (ks : List (KitState (List Grant))). Seated permits_by s all ks c.loop-kit.agents.rest.now crew) c.in-Some.ensures.steps.0 c.loop-kit.invariant in
    let seated : Seated permits_by s all (c.in-Some.kit ∷ rest) (agent ∷ left) crew =
    subst (λ (xs : List AgentConf). Seated permits_by s all (c.in-Some.kit ∷ rest) xs crew) agents kits in
    let desk-is : member.desk ≡ c.new-desk.result = ap (λ (x : Client (AgentState (List Grant))). x.desk) c.new.ensures in
    let scripts-are : member.scripts ≡ agent.scripts = ap (λ (x : Client (AgentState (List Grant))). x.scripts) c.new.ensures ∙ c.items.ensures in
    let kit = (seated.kits_are 0 c.in-Some.kit refl).1 in
    let at : IsAtDesk permits_by s (length crew) member = record {
      site = ap (λ (d : AgentState (List Grant)). d.site) desk-is ∙ c.new-desk.ensures.site;
      agent = ap (λ (d : AgentState (List Grant)). d.agent) desk-is ∙ c.new-desk.ensures.agent ∙ omega (arith, kit);
      new = subst (λ (d : AgentState (List Grant)). IsNewDesk s.names (desk_of d)) (sym desk-is) c.new-desk.ensures.new;
      sound = subst (λ (d : AgentState (List Grant)). IsDecidedLog permits_by d.site d.agent d.log) (sym desk-is) c.new-desk.ensures.sound;
    } in
    subst (λ (cs : List (Client (AgentState (List Grant)))). Seated permits_by s all rest left cs) (sym c.in_ok-push.ensures.items)
    (seated-more permits_by s all c.in-Some.kit rest agent left crew member seated scripts-are at)
