use Rattle.std.proofs.Common.{◌≡◌, ◌≤◌, drop, length}
use Rattle.tc_read.proofs.variables.is_same.Given as goal

abbrev pub invariant-loop-left : goal.invariant-loop-left
invariant-loop-left l = (l.left ≤ length l.name) × (drop l.left l.name ≡ drop l.left l.known)

abbrev pub decreases-loop-left : goal.decreases-loop-left
decreases-loop-left l = l.left
