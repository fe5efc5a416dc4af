use Rattle.std.proofs.Common.{◌-◌, ◌≤◌, length}
use Rattle.test_core_worlds.proofs.worlds.tell_all.Given as goal

abbrev pub invariant-loop-clause : goal.invariant-loop-clause
invariant-loop-clause l = l.from ≤ length l.text

abbrev pub decreases-loop-clause : goal.decreases-loop-clause
decreases-loop-clause l = length l.text - l.from
