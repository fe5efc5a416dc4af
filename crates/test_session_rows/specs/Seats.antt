-- Desks of the agents of a site.
use Rattle.std.specs.Prelude.{◌≡◌, ℕ, List, Some, length, slice_get, true}
use Rattle.tc_policy.specs.declared.grants.Grant.{Grant}
use Rattle.tc_site.specs.Desks.{AgentState, desk_of}
use Rattle.tc_site.specs.Sites.{SiteState}

-- the desk is this agent's at the site, and holds no turn
pub record IsSeat (s : SiteState (List Grant)) (agent : ℕ) (d : AgentState (List Grant))
    : Type 0 where
  pub site : d.site ≡ s
  pub agent_is : d.agent ≡ agent
  pub free : (desk_of d).free ≡ true

-- each agent of the site has a desk, in order
pub record AreSeats (s : SiteState (List Grant)) (desks : List (AgentState (List Grant)))
    : Type 0 where
  pub whole : length desks ≡ length s.roles
  pub each : (k : ℕ) (d : AgentState (List Grant)) → slice_get desks k ≡ Some d
      → IsSeat s k d
