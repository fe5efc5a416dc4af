use Rattle.std.proofs.Common.{◌-◌, length}
use Rattle.tc_config.specs.Pieces.{IsProgressIn}
use Rattle.tc_config.proofs.progress.read_rest.Given as goal

abbrev pub invariant-loop-progress : goal.invariant-loop-progress
invariant-loop-progress l = IsProgressIn l.text l.progress

abbrev pub decreases-loop-progress : goal.decreases-loop-progress
decreases-loop-progress l = length l.text - l.progress.from
