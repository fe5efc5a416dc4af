use Rattle.std.proofs.Common.{◌-◌, ◌≤◌, length}
use Rattle.test_run_check.proofs.worlds.world_of.Given as goal

abbrev pub invariant-loop-world : goal.invariant-loop-world
invariant-loop-world l = l.from ≤ length l.configuration

abbrev pub decreases-loop-world : goal.decreases-loop-world
decreases-loop-world l = length l.configuration - l.from
