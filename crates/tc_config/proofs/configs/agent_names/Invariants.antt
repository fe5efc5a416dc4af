use Rattle.std.proofs.Common.{◌≡◌, map, take}
use Rattle.tc_config.specs.declared.configs.AgentConf.{AgentConf}
use Rattle.tc_config.proofs.configs.agent_names.Given as goal

abbrev pub invariant-loop-agent : goal.invariant-loop-agent
invariant-loop-agent l = l.names.items ≡ map (λ (a : AgentConf). a.name) (take l.agent-index l.agents)
