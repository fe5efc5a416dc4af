-- Agents at the desks of a site, before they are driven and afterwards.
use Rattle.std.specs.Prelude.{◌≡◌, ℕ, ◌+◌, ◌*◌, ◌^◌, ◌<◌, ◌≤◌, Option, Some}
use Rattle.std.specs.Prelude.{List, All, length, map, slice_get, sum_by}
use Rattle.tc_config.specs.Configurations.{items_of}
use Rattle.tc_config.specs.declared.configs.AgentConf.{AgentConf}
use Rattle.tc_model.specs.declared.asks.Primitive.{Primitive}
use Rattle.tc_sched.specs.Clients.{Client, IsOfScripts}
use Rattle.tc_sched.specs.Steps.{ArePlaced}
use Rattle.tc_site.specs.Desks.{AgentState, IsNewDesk, IsDecidedLog, desk_of}
use Rattle.tc_site.specs.Sites.{AreOfSite, EndedDeskState, SiteState, TURNS, roles_of}

-- what the agents of a site must be, so that they can be driven: each item goes to one of the
-- centres, and turns suffice for all items
pub record CanDrive {W : Type 0} (s : SiteState W) (agents : List AgentConf) : Type 0 where
  pub roles_are : s.roles ≡ roles_of agents
  pub few : length agents < 2 ^ 32
  pub placed : All (λ (a : AgentConf). ArePlaced (length s.names) a.scripts) agents
  pub few_items : 6 * sum_by items_of agents + 2 ≤ TURNS

module _ {W : Type 0} (permits : W → ℕ → ℕ → Primitive → Option ℕ) (s : SiteState W) where
  -- the agent of this place is at a desk of the site, which has made no call
  pub record IsAtDesk (k : ℕ) (c : Client (AgentState W)) : Type 0 where
    pub site : c.desk.site ≡ s
    pub agent : c.desk.agent ≡ k
    pub new : IsNewDesk s.names (desk_of c.desk)
    pub sound : IsDecidedLog permits c.desk.site c.desk.agent c.desk.log

  -- each agent is at a desk, with its scripts
  pub record AreAtDesks (agents : List AgentConf) (crew : List (Client (AgentState W)))
      : Type 0 where
    pub scripts : map (λ (c : Client (AgentState W)). c.scripts) crew
        ≡ map (λ (a : AgentConf). a.scripts) agents
    pub each : (k : ℕ) (c : Client (AgentState W)) → slice_get crew k ≡ Some c → IsAtDesk k c

  -- the agent's desk has ended: its log has the rows of its scripts, which the warden has decided
  pub record IsLeft (k : ℕ) (a : AgentConf) (e : EndedDeskState W) : Type 0 where
    pub rows : IsOfScripts s.names a.scripts e.log
    pub sound : IsDecidedLog permits s k e.log

  -- each agent's desk has ended
  pub record AreLeft (agents : List AgentConf) (ended : List (EndedDeskState W)) : Type 0 where
    pub are : AreOfSite (λ (e : EndedDeskState W). e.site)
        (λ (e : EndedDeskState W). e.agent) s ended
    pub each : (k : ℕ) (a : AgentConf) (e : EndedDeskState W)
        → slice_get agents k ≡ Some a → slice_get ended k ≡ Some e → IsLeft k a e

-- what is left of an agent's desk
abbrev pub ended_of : {W : Type 0} → Client (AgentState W) → EndedDeskState W
ended_of c = record { site = c.desk.site; agent = c.desk.agent; log = c.desk.log }

-- the rows of the agent's desk are those of its scripts
abbrev pub HasRows : {W : Type 0} → Client (AgentState W) → Type 0
HasRows c = IsOfScripts c.desk.site.names c.scripts c.desk.log
