use Rattle.std.proofs.Common.{◌-◌, ◌+◌, length}
use Rattle.tc_verify.proofs.Parting.{HasPassed}
use Rattle.tc_verify.proofs.inputs.parted.Given as goal

abbrev pub invariant-loop-end : goal.invariant-loop-end
invariant-loop-end l = HasPassed l.input l.from

abbrev pub decreases-loop-end : goal.decreases-loop-end
decreases-loop-end l = length l.input + 1 - l.from
