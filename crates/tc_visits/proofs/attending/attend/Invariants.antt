use Rattle.std.proofs.Common.{◌≡◌, ◌<◌, length}
use Rattle.tc_visits.proofs.attending.attend.Given as goal

-- the seats are as they were
abbrev pub invariant-loop : goal.invariant-loop
invariant-loop g l = record {
  buffer : 0 < length l.buffer;
  seats : l.seats ≡ l.fn.seats;
}
