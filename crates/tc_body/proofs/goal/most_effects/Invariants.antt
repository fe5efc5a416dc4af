use Rattle.std.proofs.Common.{◌≤◌}
use Rattle.tc_body.proofs.goal.most_effects.Given as goal

abbrev pub invariant-loop-goal : goal.invariant-loop-goal
invariant-loop-goal l = l.count ≤ l.goal-index
