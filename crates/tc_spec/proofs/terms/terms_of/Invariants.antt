use Rattle.std.proofs.Common.{◌≡◌, map, take}
use Rattle.tc_term.specs.TreeView.{tree_of}
use Rattle.tc_model.specs.Reactions.{goal_term}
use Rattle.tc_spec.proofs.terms.terms_of.Given as goal

-- the terms so far are those of the goals so far
abbrev pub invariant-loop-goal : goal.invariant-loop-goal
invariant-loop-goal l = map tree_of l.terms.items ≡ map (goal_term l.form) (take l.goal-index l.goals)
