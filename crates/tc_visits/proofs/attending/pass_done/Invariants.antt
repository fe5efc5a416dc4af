use Rattle.std.proofs.Common.{length, ◌-◌}
use Rattle.tc_visits.proofs.attending.pass_done.Given as goal

abbrev pub decreases-loop-place : goal.decreases-loop-place
decreases-loop-place g l = length l.seats - l.place
