use Rattle.std.proofs.Common.{◌≡◌, true, List, All, map}
use Rattle.tc_sched.specs.Clients.{Client}
use Rattle.tc_site.specs.Desks.{AgentState, desk_of}
use Rattle.tc_policy.specs.declared.grants.Grant.{Grant}
use Rattle.tc_workers.specs.Crews.{HasRows, ended_of}
use Rattle.tc_workers.proofs.crew.end_all.Given as goal

-- the desks so far have ended, and those that are left can end
abbrev pub invariant-loop-member : goal.invariant-loop-member
invariant-loop-member l = record {
  ended : l.ended.items ≡ map ended_of l.yielded;
  rows : All HasRows l.yielded;
  free : All (λ (c : Client (AgentState (List Grant))). (desk_of c.desk).free ≡ true) l.member-iterator.rest.items;
}
