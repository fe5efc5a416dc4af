use Rattle.std.proofs.Common.{length}
use Rattle.tc_histtext.proofs.Coming.{HasCome}
use Rattle.tc_histtext.proofs.read_texts.find.Given as goal

abbrev pub invariant-loop-rest : goal.invariant-loop-rest
invariant-loop-rest l = HasCome l.centres l.agents l.text l.reading l.rest l.count

abbrev pub decreases-loop-rest : goal.decreases-loop-rest
decreases-loop-rest l = length l.rest
