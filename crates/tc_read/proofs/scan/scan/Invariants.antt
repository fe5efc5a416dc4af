use Rattle.std.proofs.Common.{length}
use Rattle.tc_read.proofs.Found.{Scanning}
use Rattle.tc_read.proofs.scan.scan.Given as goal

abbrev pub invariant-loop-stop : goal.invariant-loop-stop
invariant-loop-stop l = Scanning l.clauses l.size l.text l.rest l.gathered

abbrev pub decreases-loop-stop : goal.decreases-loop-stop
decreases-loop-stop l = length l.rest
