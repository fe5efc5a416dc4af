use Rattle.std.proofs.Common.{◌≡◌, ◌-◌, length}
use Rattle.tc_visits.proofs.attending.pass_over.Given as goal

-- the seats are as they were
abbrev pub invariant-loop-place : goal.invariant-loop-place
invariant-loop-place g l = l.seats ≡ l.fn.seats

abbrev pub decreases-loop-place : goal.decreases-loop-place
decreases-loop-place g l = length l.seats - l.place
