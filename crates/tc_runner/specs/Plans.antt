-- Configurations whose centres are opened.
use Rattle.std.specs.Prelude.{◌≡◌, ◌≢◌, ◌<◌, ◌^◌, ◌==◌, if◌then◌else◌}
use Rattle.std.specs.Prelude.{ℕ, List, [], All, AllPairs, length, map}
use Rattle.tc_centre.specs.Centre.{Centre, centre_from}
use Rattle.tc_config.specs.Configurations.{Configuration, IsConfig, centre_names, config_with}
use Rattle.tc_config.specs.declared.configs.AgentConf.{AgentConf}
use Rattle.tc_config.specs.declared.configs.CentreConf.{CentreConf}
use Rattle.tc_config.specs.declared.configs.Society.{Society}
use Rattle.tc_model.specs.State.{IsName}

-- the names of the centres and all that isn't theirs are those of the configuration
pub record IsPlan (centres : List (List ℕ)) (society : Society) (c : Configuration) : Type 0 where
  pub config : IsConfig c
  pub centres_are : centres ≡ centre_names c
  pub rest_is : config_with c.centres society ≡ c

-- the names of agents, in order
abbrev pub names_of : List AgentConf → List (List ℕ)
names_of agents = map (λ (a : AgentConf). a.name) agents

-- a centre may know its agents by these names
pub record AreAgentNames (names : List (List ℕ)) : Type 0 where
  pub are : All IsName names
  pub differ : AllPairs ◌≢◌ names
  pub few : length names < 2 ^ 32

-- a centre of these agents that has served nothing
abbrev pub fresh_core : List (List ℕ) → CentreConf → Centre
fresh_core names s = centre_from s.name names s.budget s.tuples s.clauses

-- a core for each centre; none, where there is no agent
abbrev pub fresh_cores : List AgentConf → List CentreConf → List Centre
fresh_cores agents centres =
    if length agents == 0 then [] else map (fresh_core (names_of agents)) centres
