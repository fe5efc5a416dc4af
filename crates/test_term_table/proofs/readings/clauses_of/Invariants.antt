use Rattle.std.proofs.Common.{◌-◌, ◌≤◌, length}
use Rattle.test_term_table.proofs.readings.clauses_of.Given as goal

abbrev pub invariant-loop-behind : goal.invariant-loop-behind
invariant-loop-behind l = l.from ≤ length l.text

abbrev pub decreases-loop-behind : goal.decreases-loop-behind
decreases-loop-behind l = length l.text - l.from
