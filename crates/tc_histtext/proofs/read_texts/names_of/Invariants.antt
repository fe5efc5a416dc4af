use Rattle.std.proofs.Common.{◌≡◌, take}
use Rattle.tc_histtext.proofs.read_texts.names_of.Given as goal

abbrev pub invariant-loop-agent : goal.invariant-loop-agent
invariant-loop-agent l = l.names ≡ take l.agent-index l.agents
