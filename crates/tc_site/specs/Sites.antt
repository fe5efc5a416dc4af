-- What contracts see of a site, of its kits and of the desks that have ended.
use Rattle.std.specs.Prelude.{◌≡◌, ◌≢◌, ℕ, ◌<◌, ◌^◌, false, List, [], All}
use Rattle.std.specs.Prelude.{AllPairs}
use Rattle.std.specs.Prelude.{length, map, Some, slice_get}
use Rattle.tc_centre.specs.Centre.{Centre}
use Rattle.tc_config.specs.declared.configs.AgentConf.{AgentConf}
use Rattle.tc_desk.specs.Agreeing.{Agrees}
use Rattle.tc_desk.specs.Logs.{is_served}
use Rattle.tc_desk.specs.declared.rows.LogResult.TheVariants.{Pending}
use Rattle.tc_desk.specs.declared.rows.LogRow.{LogRow}
use Rattle.tc_model.specs.State.{Origin}
use Rattle.tc_model.specs.declared.entries.Entry.{Entry}
use Rattle.tc_shared.specs.Passes.{IsPassOf, IsAtRest}
use Rattle.tc_turn.specs.Passes.{TurnstileState, PassState, new_pass}

-- a site: the names of its centres, the centres, the role of each agent, and who decides what these
-- may do
pub record SiteState (W : Type 0) : Type 0 where
  pub names : List (List ℕ)
  pub centres : List (TurnstileState Origin)
  pub roles : List ℕ
  pub warden : W

-- the centre has a pass for each of so many agents
pub record HasPasses (agents : ℕ) (t : TurnstileState Origin) : Type 0 where
  pub passes : t.passes ≡ agents
  pub agents_are : length t.origin.agents ≡ agents

-- each centre has a name of its own, and a pass for each agent
pub record IsSite (names : List (List ℕ)) (centres : List (TurnstileState Origin))
    (roles : List ℕ)
    : Type 0 where
  pub whole : length names ≡ length centres
  pub differ : AllPairs ◌≢◌ names
  pub few : length centres < 2 ^ 32
  pub passes : All (HasPasses (length roles)) centres

-- what each centre began with
abbrev pub origins_of : List (TurnstileState Origin) → List Origin
origins_of centres = map (λ (t : TurnstileState Origin). t.origin) centres

-- what each pass has seen
abbrev pub histories_of : List (PassState Entry Origin) → List (List Entry)
histories_of passes = map (λ (p : PassState Entry Origin). p.seen) passes

-- an agent's pass of a centre
pub record IsOwnPass (agent : ℕ) (t : TurnstileState Origin) (p : PassState Entry Origin)
    : Type 0 where
  pub own : IsPassOf t p
  pub number : p.number ≡ agent

-- the agent has one pass for each centre, in order
pub record ArePasses (agent : ℕ) (centres : List (TurnstileState Origin))
    (passes : List (PassState Entry Origin)) : Type 0 where
  pub wide : length passes ≡ length centres
  pub each : (k : ℕ) (t : TurnstileState Origin) (p : PassState Entry Origin)
      → slice_get centres k ≡ Some t → slice_get passes k ≡ Some p → IsOwnPass agent t p

-- how many turns each pass of a site has
abbrev pub TURNS : ℕ
TURNS = 4294967295

-- the passes have taken no turn
pub record AreFresh (agent : ℕ) (centres : List (TurnstileState Origin))
    (passes : List (PassState Entry Origin)) : Type 0 where
  pub are : ArePasses agent centres passes
  pub fresh : (k : ℕ) (t : TurnstileState Origin) (p : PassState Entry Origin)
      → slice_get centres k ≡ Some t → slice_get passes k ≡ Some p
      → p ≡ new_pass t.table t.origin TURNS agent

-- an agent's kit, or its desk that has ended, is of this site
pub record KitState (W : Type 0) : Type 0 where
  pub site : SiteState W
  pub agent : ℕ

-- a desk that has ended: its site, its agent and its log
pub record EndedDeskState (W : Type 0) : Type 0 where
  pub site : SiteState W
  pub agent : ℕ
  pub log : List LogRow

-- the log agrees with what the agent's passes have seen
abbrev pub AgreesSeen : List (TurnstileState Origin) → List (List ℕ)
    → List (PassState Entry Origin)
    → ℕ → List LogRow → Type 0
AgreesSeen centres names passes agent log =
    Agrees (origins_of centres) names (histories_of passes) agent log

-- no row behind one that is pending was served
abbrev pub PendsBehind : List LogRow → Type 0
PendsBehind log = (k j : ℕ) (row other : LogRow) → k < j → slice_get log k ≡ Some row
    → slice_get log j ≡ Some other → row.result ≡ Pending → is_served other.result ≡ false

-- the agent's passes hold no turn, its log agrees with what they have seen, and no row behind one
-- that is pending was served
pub record IsEndedDesk {W : Type 0} (e : EndedDeskState W) (passes : List (PassState Entry Origin))
    : Type 0 where
  pub agent_is : e.agent < length e.site.roles
  pub are : ArePasses e.agent e.site.centres passes
  pub free : All (λ (p : PassState Entry Origin). p.holds ≡ false) passes
  pub agrees : AgreesSeen e.site.centres e.site.names passes e.agent e.log
  pub pends : PendsBehind e.log

-- the roles of agents, in order
abbrev pub roles_of : List AgentConf → List ℕ
roles_of agents = map (λ (a : AgentConf). a.role) agents

-- centres may be shared: none has served anything, each has as many agents as there are, and a name
-- of its own
pub record AreFreshCores (names : List (List ℕ)) (cores : List Centre) (agents : List AgentConf)
    : Type 0 where
  pub whole : length names ≡ length cores
  pub differ : AllPairs ◌≢◌ names
  pub few : length cores < 2 ^ 32
  pub few_agents : length agents < 2 ^ 32
  pub unserved : All (λ (x : Centre). x.history ≡ []) cores
  pub agents_are : All (λ (x : Centre). length x.origin.agents ≡ length agents) cores

-- the site has these names, centres that begin as these cores do, the agents' roles, and this
-- warden
pub record IsSiteOf {W : Type 0} (names : List (List ℕ)) (cores : List Centre)
    (agents : List AgentConf)
    (warden : W) (s : SiteState W) : Type 0 where
  pub names_are : s.names ≡ names
  pub origins : origins_of s.centres ≡ map (λ (x : Centre). x.origin) cores
  pub roles_are : s.roles ≡ roles_of agents
  pub warden_is : s.warden ≡ warden

-- there is one for each agent of the site, in order
pub record AreOfSite {W V : Type 0} (site : V → SiteState W) (agent : V → ℕ) (s : SiteState W)
    (vs : List V) : Type 0 where
  pub whole : length vs ≡ length s.roles
  pub each : (k : ℕ) (v : V) → slice_get vs k ≡ Some v → (site v ≡ s) × (agent v ≡ k)

-- what the cores began with, and their histories
abbrev pub core_origins : List Centre → List Origin
core_origins cores = map (λ (x : Centre). x.origin) cores

abbrev pub core_histories : List Centre → List (List Entry)
core_histories cores = map (λ (x : Centre). x.history) cores

-- the cores that are left of a site: each begins as its centre did, and its history is at rest
pub record AreClosed {W : Type 0} (s : SiteState W) (cores : List Centre) : Type 0 where
  pub origins : core_origins cores ≡ origins_of s.centres
  pub rest : All (λ (x : Centre). IsAtRest x.origin x.history) cores

-- each agent's log agrees with the histories of the cores, whose centres have these names
abbrev pub AllAgree : List (List ℕ) → List Centre → List (List LogRow) → Type 0
AllAgree names cores logs = (agent : ℕ) (log : List LogRow) → slice_get logs agent ≡ Some log
    → Agrees (core_origins cores) names (core_histories cores) agent log
