use Rattle.tc_load.specs.Workload.{agent_text}
use Rattle.tc_load.proofs.Steps.{written-range}
use Rattle.tc_load.proofs.configuration.write_agents.Goals as goal

pub loop-agent-preserved : goal.loop-agent-preserved
loop-agent-preserved c =
    written-range (agent_text c.args.words.now) c.loop-agent.agent c.args.into.now.items c.loop-agent.into.items _
    c.loop-agent.invariant c.in_ok-write_agent.ensures.appended
