use Rattle.std.proofs.Common.{◌≡◌, true, rules, subst, sym}
use Rattle.tc_site.specs.Desks.{AgentState, desk_of}
use Rattle.tc_site.proofs.Settled.{free-passes, pends-behind}
use Rattle.tc_site.proofs.desks.AgentDesk.end.Goals as goal

pub invariant_of-result : goal.invariant_of-result
invariant_of-result g c = record {
  agent_is = search rules;
  are = search rules;
  free = free-passes _ c.self.invariant (subst (λ (d : AgentState g.row.W.Denot). (desk_of d).free ≡ true) (sym c.self.view_is) c.requires.free);
  agrees = search rules;
  pends = pends-behind c.self.inside.site.now.names c.self.inside.log.items c.self.inside.pending c.self.invariant.waits;
}
