use Rattle.tc_verify.specs.Verdicts.{AreSoundBefore}
use Rattle.tc_verify.proofs.agents.first_agent_of.Given as goal

abbrev pub invariant-loop-agent : goal.invariant-loop-agent
invariant-loop-agent l = AreSoundBefore l.question l.config l.told l.agent
