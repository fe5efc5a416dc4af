use Rattle.std.proofs.Common.{◌≡◌, ◌-◌, length, All}
use Rattle.tc_unify.specs.declared.walk.Mark.TheVariants.{Unseen}
use Rattle.tc_unify.proofs.walk.push_unseen.Given as goal

abbrev pub invariant-loop-marks : goal.invariant-loop-marks
invariant-loop-marks l = All (λ m. m ≡ Unseen) l.marks.items

abbrev pub decreases-loop-marks : goal.decreases-loop-marks
decreases-loop-marks l = l.len - length l.marks.items
