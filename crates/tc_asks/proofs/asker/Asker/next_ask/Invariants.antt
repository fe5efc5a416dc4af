use Rattle.std.proofs.Common.{◌-◌, length}
use Rattle.tc_asks.specs.Progress.{HasTakenIn}
use Rattle.tc_asks.proofs.asker.Asker.next_ask.Given as goal

-- the asker has taken in a beginning of the log
abbrev pub invariant-loop-self : goal.invariant-loop-self
invariant-loop-self l = HasTakenIn l.scripts l.log l.self

abbrev pub decreases-loop-self : goal.decreases-loop-self
decreases-loop-self l = length l.log - l.self.rows
