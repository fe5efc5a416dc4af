use Rattle.std.proofs.Common.{◌≡◌, ◌∙◌, ◌∷◌, List, length, get_or, refl, sym, ap, subst, rules, arith}
use Rattle.tc_config.specs.declared.configs.AgentConf.{AgentConf}
use Rattle.tc_policy.specs.declared.grants.Grant.{Grant}
use Rattle.tc_sched.specs.Clients.{Client}
use Rattle.tc_site.specs.Desks.{AgentState, IsNewDesk, IsDecidedLog, desk_of}
use Rattle.tc_site.specs.Sites.{KitState}
use Rattle.tc_workers.specs.Crews.{IsAtDesk}
use Rattle.tc_site.proofs.Configured.{permits_by}
use Rattle.tc_workers.proofs.Seating.{Seating, seated, seating-more, within}
use Rattle.tc_workers.proofs.crew.at_desks.Goals as goal

pub new-desk-requires : goal.new-desk-requires
new-desk-requires c =
    let seating : Seating permits_by c.args.site.now c.args.agents.now (c.in-Some.kit ∷ c.next.new.self.rest.items) c.loop-kit.crew.items =
    subst (λ (kits : List (KitState (List Grant))). Seating permits_by c.args.site.now c.args.agents.now kits c.loop-kit.crew.items) c.in-Some.ensures.steps.0 c.loop-kit.invariant in
    (seating.kits 0 c.in-Some.kit refl).0

pub overflow_cast-agent : goal.overflow_cast-agent
overflow_cast-agent c =
    let crew = c.loop-kit.crew.items in
    let rest = c.next.new.self.rest.items in
    let seating : Seating permits_by c.args.site.now c.args.agents.now (c.in-Some.kit ∷ rest) crew =
    subst (λ (kits : List (KitState (List Grant))). Seating permits_by c.args.site.now c.args.agents.now kits crew) c.in-Some.ensures.steps.0 c.loop-kit.invariant in
    let long : length crew ≡ c.len-agent.result = search rules in
    let below = within permits_by c.args.site.now c.args.agents.now c.in-Some.kit rest crew seating in
    let few = c.requires.few in
    omega (arith, below, few, long)

pub returns : goal.returns
returns c =
    let none : length c.loop-kit.kit-iterator.rest.items ≡ 0 = search rules in
    seated permits_by c.args.site.now c.args.agents.now c.loop-kit.kit-iterator.rest.items c.loop-kit.crew.items none c.loop-kit.invariant

pub loop-kit-preserved : goal.loop-kit-preserved
loop-kit-preserved c =
    let s = c.args.site.now in
    let agents = c.args.agents.now in
    let crew = c.loop-kit.crew.items in
    let rest = c.next.new.self.rest.items in
    let a = c.index-agents-agent.result in
    let member = c.new.result in
    let seating : Seating permits_by s agents (c.in-Some.kit ∷ rest) crew =
    subst (λ (kits : List (KitState (List Grant))). Seating permits_by s agents kits crew) c.in-Some.ensures.steps.0 c.loop-kit.invariant in
    let is : a ≡ get_or agents (length crew) a = search rules in
    let place : get_or agents c.len-agent.result a ≡ a = search rules in
    let desk-is : member.desk ≡ c.new-desk.result = ap (λ (x : Client (AgentState (List Grant))). x.desk) c.new.ensures in
    let scripts-are : member.scripts ≡ a.scripts =
    ap (λ (x : Client (AgentState (List Grant))). x.scripts) c.new.ensures ∙ c.items.ensures ∙ ap (λ (x : AgentConf). x.scripts) place in
    let kit = (seating.kits 0 c.in-Some.kit refl).1 in
    let at : IsAtDesk permits_by s (length crew) member = record {
      site = ap (λ (d : AgentState (List Grant)). d.site) desk-is ∙ c.new-desk.ensures.site;
      agent = ap (λ (d : AgentState (List Grant)). d.agent) desk-is ∙ c.new-desk.ensures.agent ∙ omega (arith, kit);
      new = subst (λ (d : AgentState (List Grant)). IsNewDesk s.names (desk_of d)) (sym desk-is) c.new-desk.ensures.new;
      sound = subst (λ (d : AgentState (List Grant)). IsDecidedLog permits_by d.site d.agent d.log) (sym desk-is) c.new-desk.ensures.sound;
    } in
    subst (λ (cs : List (Client (AgentState (List Grant)))). Seating permits_by s agents rest cs) (sym c.in_ok-push.ensures.items)
    (seating-more permits_by s agents c.in-Some.kit rest crew seating a member is scripts-are at)
