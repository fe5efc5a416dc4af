use Rattle.std.proofs.Common.{◌-◌, ◌≤◌, length}
use Rattle.test_term_table.proofs.table.answered.Given as goal

abbrev pub invariant-loop-into : goal.invariant-loop-into
invariant-loop-into l = l.from ≤ length l.table

abbrev pub decreases-loop-into : goal.decreases-loop-into
decreases-loop-into l = length l.table - l.from
