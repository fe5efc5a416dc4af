use Rattle.std.proofs.Common.{length, ◌-◌}
use Rattle.tc_visits.proofs.attending.stir_answered.Given as goal

abbrev pub decreases-loop-number : goal.decreases-loop-number
decreases-loop-number g l = length l.seats - l.from
