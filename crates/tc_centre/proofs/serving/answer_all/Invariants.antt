use Rattle.std.proofs.Common.{◌≡◌, length}
use Rattle.tc_centre.specs.Held.{HoldsRun, KeepsHeld, KeepsTyped, Knows, Answers}
use Rattle.tc_centre.proofs.serving.answer_all.Given as goal

abbrev pub invariant-loop-place : goal.invariant-loop-place
invariant-loop-place g l = record {
  run : HoldsRun l.held;
  known : Knows l.known l.held;
  answers : Answers l.initial.held.history.items l.held.history.items;
  keeps : KeepsHeld l.initial.held l.held;
  spec : l.held.spec ≡ l.initial.held.spec;
  typed : KeepsTyped l.initial.held l.held;
}

abbrev pub decreases-loop-place : goal.decreases-loop-place
decreases-loop-place g l = length l.held.pending.now
