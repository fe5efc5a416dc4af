-- Configurations: centres, roles with their grants, and agents with their scripts.
use Rattle.std.specs.Prelude.{◌≢◌, ◌<◌, ◌≤◌, ℕ, List, [], All, AllPairs, length, map, sum_by}
use Rattle.tc_term.specs.Tree.{IsTuple}
use Rattle.tc_model.specs.Reactions.{AreClauses}
use Rattle.tc_model.specs.Scripts.{Lines}
use Rattle.tc_model.specs.State.{IsName}
use Rattle.tc_model.specs.declared.limits.TheConstants.{MOST_BUDGET, MOST_TUPLES}
use Rattle.tc_model.specs.declared.scripts.ScriptItem.{ScriptItem}
use Rattle.tc_policy.specs.declared.grants.Grant.{Grant}
use Rattle.tc_config.specs.declared.configs.AgentConf.{AgentConf}
use Rattle.tc_config.specs.declared.configs.CentreConf.{CentreConf}
use Rattle.tc_config.specs.declared.configs.Society.{Society}
use Rattle.tc_config.specs.declared.limits.TheConstants.{MOST_CENTRES, MOST_ROLES, MOST_AGENTS}
use Rattle.tc_config.specs.declared.limits.TheConstants.{MOST_ITEMS}

-- centres, the names of roles, what the roles may do, and agents; each place is counted from 0
pub record Configuration : Type 0 where
  pub centres : List CentreConf
  pub role_names : List (List ℕ)
  pub roles : List Grant
  pub agents : List AgentConf

abbrev pub configuration :
    List CentreConf → List (List ℕ) → List Grant → List AgentConf → Configuration
configuration centres role_names roles agents =
    record { centres = centres; role_names = role_names; roles = roles; agents = agents }

-- the one of these centres and all else
abbrev pub config_with : List CentreConf → Society → Configuration
config_with centres s = configuration centres s.role_names s.roles s.agents

-- the one of no clause
abbrev pub nothing : Configuration
nothing = configuration [] [] [] []

abbrev pub centre_names : Configuration → List (List ℕ)
centre_names c = map (λ (s : CentreConf). s.name) c.centres

abbrev pub agent_names : Configuration → List (List ℕ)
agent_names c = map (λ (a : AgentConf). a.name) c.agents

-- how many items an agent's scripts have together
abbrev pub items_of : AgentConf → ℕ
items_of a = sum_by (λ (s : Lines). length s.items) a.scripts

-- how many items there are in all
abbrev pub items_in : Configuration → ℕ
items_in c = sum_by items_of c.agents

-- what a centre is set up with
pub record IsCentre (s : CentreConf) : Type 0 where
  pub name : IsName s.name
  pub some_budget : 1 ≤ s.budget
  pub budget : s.budget ≤ MOST_BUDGET
  pub clauses : AreClauses s.clauses
  pub tuples : All IsTuple s.tuples
  pub few_tuples : length s.tuples ≤ MOST_TUPLES

-- a grant's role and centre are there
pub record IsGrant (c : Configuration) (g : Grant) : Type 0 where
  pub role : g.role < length c.role_names
  pub centre : g.centre < length c.centres

-- each item of the script goes to a centre that is there
abbrev pub HasCentres : Configuration → Lines → Type 0
HasCentres c s = All (λ (i : ScriptItem). i.centre < length c.centres) s.items

-- an agent's role is there, and so are the centres of its scripts
pub record IsAgent (c : Configuration) (a : AgentConf) : Type 0 where
  pub name : IsName a.name
  pub role : a.role < length c.role_names
  pub scripts : All (HasCentres c) a.scripts

-- what the type promises of a configuration
pub record IsConfig (c : Configuration) : Type 0 where
  pub centres : All IsCentre c.centres
  pub roles : All IsName c.role_names
  pub grants : All (IsGrant c) c.roles
  pub agents : All (IsAgent c) c.agents
  pub centres_differ : AllPairs ◌≢◌ (centre_names c)
  pub roles_differ : AllPairs ◌≢◌ c.role_names
  pub agents_differ : AllPairs ◌≢◌ (agent_names c)
  pub few_centres : length c.centres ≤ MOST_CENTRES
  pub few_roles : length c.role_names ≤ MOST_ROLES
  pub few_agents : length c.agents ≤ MOST_AGENTS
  pub few_items : items_in c ≤ MOST_ITEMS
