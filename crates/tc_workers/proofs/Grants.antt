-- Agents at desks of roles.
use Rattle.std.proofs.Common.{ℕ, ◌+◌, ◌*◌, List}
use Rattle.tc_policy.specs.declared.grants.Grant.{Grant}
use Rattle.tc_sched.specs.Clients.{Client}
use Rattle.tc_sched.specs.Steps.{AllWent, left_in}
use Rattle.tc_site.specs.Desks.{AgentState, IsDecidedLog, desk_of}
use Rattle.tc_site.specs.Sites.{SiteState}
use Rattle.tc_site.proofs.Configured.{permits_by}

-- an agent at its desk
abbrev pub Member : Type 0
Member = Client (AgentState (List Grant))

-- the agents were driven
abbrev pub Driven : List Member → List Member → Type 0
Driven olds news =
    AllWent {B = SiteState (List Grant) × ℕ} desk_of (λ (d : AgentState (List Grant)). (d.site, d.agent)) (λ (d : AgentState (List Grant)). IsDecidedLog permits_by d.site d.agent d.log)
    (3 * left_in desk_of olds + 2) olds news
