use Rattle.std.proofs.Common.{◌≡◌, map, take}
use Rattle.tc_config.specs.declared.configs.AgentConf.{AgentConf}
use Rattle.tc_site.proofs.sharing.roles.Given as goal

abbrev pub invariant-loop-agent : goal.invariant-loop-agent
invariant-loop-agent l = l.roles.items ≡ map (λ (x : AgentConf). x.role) (take l.agent-index l.agents)
