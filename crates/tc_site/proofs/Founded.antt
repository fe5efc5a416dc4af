-- Cores that are set up as a configuration says.
use Rattle.std.proofs.Common.{◌≡◌, ℕ, ◌<◌, List, [], length, map, refl, sym, ap, ◌∙◌, arith}
use Rattle.std.proofs.lemmas.List.{length-map}
use Rattle.std.proofs.lemmas.List.Elements.{All-map}
use Rattle.std.proofs.lemmas.Simd.{map-map}
use Rattle.tc_centre.specs.Centre.{Centre}
use Rattle.tc_config.specs.Configurations.{Configuration, IsCentre, IsConfig, agent_names, centre_names}
use Rattle.tc_config.specs.Good.{origin_of}
use Rattle.tc_config.specs.declared.configs.AgentConf.{AgentConf}
use Rattle.tc_config.specs.declared.configs.CentreConf.{CentreConf}
use Rattle.tc_model.specs.State.{IsName, IsOrigin, Origin}
use Rattle.tc_site.specs.Founding.{IsFounded, founded_core}
use Rattle.tc_site.specs.Sites.{SiteState, AreFreshCores, IsSiteOf, roles_of}

module _ (c : Configuration) (config : IsConfig c) where
  names-long : length (agent_names c) ≡ length c.agents
  names-long = length-map c.agents (λ (a : AgentConf). a.name)

  -- a centre of the configuration may begin as it is set up
  pub IsOrigin-config : 0 < length c.agents → (s : CentreConf) → IsCentre s → IsOrigin (origin_of c s)
  IsOrigin-config some s centre = record {
    name = centre.name;
    some_agent = omega (arith, some, names-long);
    agents = omega (arith, config.few_agents, names-long);
    names_differ = config.agents_differ;
    agent_names = All-map IsName (λ (a : AgentConf). a.name) c.agents (λ k d inside. (config.agents k d inside).name);
    some_budget = centre.some_budget;
    budget = centre.budget;
    tuples = centre.tuples;
    few_tuples = centre.few_tuples;
    clauses = centre.clauses;
  }

  -- its centres may be shared
  pub AreFreshCores-config : AreFreshCores (centre_names c) (map (founded_core c) c.centres) c.agents
  AreFreshCores-config =
      let many = length-map c.centres (founded_core c) in
      record {
        whole = length-map c.centres (λ (s : CentreConf). s.name) ∙ sym many;
        differ = config.centres_differ;
        few = omega (arith, config.few_centres, many);
        few_agents = omega (arith, config.few_agents);
        unserved = All-map (λ (x : Centre). x.history ≡ []) (founded_core c) c.centres (λ k d inside. refl);
        agents_are = All-map (λ (x : Centre). length x.origin.agents ≡ length c.agents) (founded_core c) c.centres
            (λ k d inside. names-long);
      }

-- a site round these cores is that of the configuration
pub IsFounded-cores : {W : Type 0} (c : Configuration) {names : List (List ℕ)} {cores : List Centre} {agents : List AgentConf}
    → names ≡ centre_names c → cores ≡ map (founded_core c) c.centres → agents ≡ c.agents → (warden : W) (s : SiteState W)
    → IsSiteOf names cores agents warden s → IsFounded c warden s
IsFounded-cores c names cores agents warden s site =
    let origin : Centre → Origin = λ x. x.origin in
    record {
      names_are = site.names_are ∙ names;
      origins = site.origins ∙ ap (map origin) cores ∙ map-map origin (founded_core c) c.centres;
      roles_are = site.roles_are ∙ ap roles_of agents;
      warden_is = site.warden_is;
    }
