use Rattle.std.proofs.Common.{◌≡◌, ◌∙◌, map, ap}
use Rattle.tc_config.specs.Configurations.{agent_names}
use Rattle.tc_config.specs.declared.configs.AgentConf.{AgentConf}
use Rattle.tc_site.proofs.Founded.{IsOrigin-config}
use Rattle.tc_site.proofs.founding.core.Goals as goal

pub new-requires : goal.new-requires
new-requires c =
    let agents : c.in_ok-agents.agents.items ≡ agent_names c.args.config.now =
    c.in_ok-agents.ensures ∙ ap (map (λ (a : AgentConf). a.name)) c.agents.ensures.agents in
    let tuples = c.in_ok-tuples.ensures ∙ c.items.ensures in
    rw c.in_ok-name.ensures
    (rw agents
    (rw tuples
    (rw c.in_ok-clauses.ensures (IsOrigin-config c.args.config.now c.agents.ensures.config c.requires.some c.args.centre.now c.requires.centre))))
