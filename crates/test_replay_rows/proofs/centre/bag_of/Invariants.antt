use Rattle.std.proofs.Common.{◌-◌, ◌≤◌, length}
use Rattle.test_replay_rows.proofs.centre.bag_of.Given as goal

abbrev pub invariant-loop-bag : goal.invariant-loop-bag
invariant-loop-bag l = l.from ≤ length l.text

abbrev pub decreases-loop-bag : goal.decreases-loop-bag
decreases-loop-bag l = length l.text - l.from
