use Rattle.std.proofs.Common.{◌≡◌, ◌++◌}
use Rattle.std.specs.List.{flat_map, range_with_len}
use Rattle.tc_load.specs.Workload.{agent_text}
use Rattle.tc_load.proofs.configuration.write_agents.Given as goal

-- the agents so far are written
abbrev pub invariant-loop-agent : goal.invariant-loop-agent
invariant-loop-agent l = l.into.items ≡ l.fn.into.items ++ flat_map (agent_text l.words) (range_with_len 0 l.agent)
