use Rattle.std.proofs.Common.{◌-◌, length}
use Rattle.tc_config.specs.Pieces.{IsProgressIn}
use Rattle.tc_config.proofs.reading.read_text_by.Given as goal

abbrev pub invariant-loop-from : goal.invariant-loop-from
invariant-loop-from g l = IsProgressIn l.text l.progress

abbrev pub decreases-loop-from : goal.decreases-loop-from
decreases-loop-from g l = length l.text - l.progress.from
