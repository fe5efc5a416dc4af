use Rattle.std.proofs.Common.{◌-◌, ◌≤◌}
use Rattle.tc_config.specs.Pieces.{IsProgressIn}
use Rattle.tc_config.proofs.progress.read_to.Given as goal

abbrev pub invariant-loop-progress : goal.invariant-loop-progress
invariant-loop-progress l = record {
  progress : IsProgressIn l.text l.progress;
  onward : l.fn.progress.from ≤ l.progress.from;
}

abbrev pub decreases-loop-progress : goal.decreases-loop-progress
decreases-loop-progress l = l.to - l.progress.from
