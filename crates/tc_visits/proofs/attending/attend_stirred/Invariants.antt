use Rattle.std.proofs.Common.{◌≡◌, ◌<◌, ◌-◌, length}
use Rattle.tc_visits.proofs.attending.attend_stirred.Given as goal

-- the seats are as they were
abbrev pub invariant-loop-number : goal.invariant-loop-number
invariant-loop-number g l = record {
  buffer : 0 < length l.buffer;
  seats : l.seats ≡ l.fn.seats;
}

abbrev pub decreases-loop-number : goal.decreases-loop-number
decreases-loop-number g l = length l.seats - l.from
