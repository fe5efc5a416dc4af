use Rattle.std.proofs.Common.{◌≡◌, take}
use Rattle.tc_model.proofs.reactions.copy_goals.Given as goal

abbrev pub invariant-loop-goal : goal.invariant-loop-goal
invariant-loop-goal l = l.copies.items ≡ take l.goal-index l.goals
