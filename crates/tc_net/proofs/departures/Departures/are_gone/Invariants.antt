use Rattle.std.proofs.Common.{length}
use Rattle.tc_net.proofs.departures.Departures.are_gone.Given as goal

-- nothing has to be kept
abbrev pub invariant-loop-stream : goal.invariant-loop-stream
invariant-loop-stream l = Unit {0}

abbrev pub decreases-loop-stream : goal.decreases-loop-stream
decreases-loop-stream l = length l.self.bytes.items
