use Rattle.std.proofs.Common.{◌≡◌, ◌∙◌, ℕ, List, [], All, Vec, length, map, ap, sym, subst, ap₂, arith, rules}
use Rattle.std.specs.Global.{Global}
use Rattle.std.proofs.lemmas.List.{length-map}
use Rattle.tc_centre.specs.Centre.{Centre}
use Rattle.tc_config.specs.Configurations.{Configuration, IsConfig, centre_names, config_with}
use Rattle.tc_config.specs.declared.configs.AgentConf.{AgentConf}
use Rattle.tc_config.specs.declared.configs.CentreConf.{CentreConf}
use Rattle.tc_desk.specs.declared.rows.LogRow.{LogRow}
use Rattle.tc_desk.specs.Logs.{rows_of}
use Rattle.tc_runner.specs.Cores.{AreCores, Goes}
use Rattle.tc_runner.specs.Plans.{AreAgentNames, fresh_cores, names_of}
use Rattle.tc_runner.proofs.Fresh.{AreAgentNames-config, AreCores-fresh, Goes-fresh, fresh-none, unserved-fresh}
use Rattle.tc_runner.proofs.opening.open.Goals as goal

pub cores-requires-clause-names : goal.cores-requires-clause-names
cores-requires-clause-names c =
    let agents : c.args.config.agents ≡ c.items-agents.result.now =
    ap (λ (x : Configuration). x.agents) c.into_parts-centres.ensures.parts ∙ sym c.items-agents.ensures in
    subst (λ (agents : List AgentConf). AreAgentNames (names_of agents)) agents (AreAgentNames-config c.args.config c.into_parts-centres.ensures.config)

pub new-plan-requires : goal.new-plan-requires
new-plan-requires c =
    let parts = c.into_parts-centres.ensures.parts in
    let whole = c.of-whole.ensures in
    let name : CentreConf → List ℕ = λ s. s.name in
    record {
      config = subst IsConfig (sym whole) c.into_parts-centres.ensures.config;
      centres_are = c.in_ok-names.ensures ∙ ap (map name) (c.deref.ensures.value ∙ sym (ap (λ (x : Configuration). x.centres) parts))
          ∙ ap centre_names (sym whole);
      rest_is = let same = whole ∙ parts in ap (λ (x : Configuration). config_with x.centres c.into_parts-centres.result.1) same ∙ sym same;
    }

pub returns-clause-fresh : goal.returns-clause-fresh
returns-clause-fresh c =
    let parts = c.into_parts-centres.ensures.parts in
    let agents : c.items-agents.result.now ≡ c.args.config.agents =
    c.items-agents.ensures ∙ sym (ap (λ (x : Configuration). x.agents) parts) in
    let centres : c.into_parts-centres.result.0.items ≡ c.args.config.centres = sym (ap (λ (x : Configuration). x.centres) parts) in
    let fresh : c.in_ok-cores.cores.items ≡ fresh_cores c.args.config.agents c.args.config.centres =
    c.in_ok-cores.ensures ∙ ap₂ fresh_cores agents centres in
    let logs : List (Vec LogRow Global) = c.in_ok-logs.logs.items in
    let same : c.new-plan.result ≡ c.args.config = search rules in
    let unserved = subst (All (λ (x : Centre). x.history ≡ [])) (sym fresh) (unserved-fresh c.args.config.agents c.args.config.centres) in
    let goes =
    Goes-fresh c.args.config c.in_ok-cores.cores.items (rows_of logs)
    (subst (AreCores c.args.config) (sym fresh) (AreCores-fresh c.args.config)) unserved
    (omega (arith, ap length agents, c.in_ok-logs.ensures.count, length-map logs (λ (v : Vec LogRow Global). v.items)))
    c.in_ok-logs.ensures.empty in
    record {
      may = record {
        goes = subst (λ (p : Configuration). Goes p c.in_ok-cores.cores.items (rows_of logs)) (sym same) goes;
        none = λ no_agent.
            fresh ∙ fresh-none c.args.config.agents c.args.config.centres (ap (λ (p : Configuration). length p.agents) (sym same) ∙ no_agent);
      };
      unserved = unserved;
      unasked = c.in_ok-logs.ensures.empty;
    }
