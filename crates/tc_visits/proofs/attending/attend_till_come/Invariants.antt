use Rattle.std.proofs.Common.{◌≡◌, ◌<◌, length}
use Rattle.tc_visits.proofs.attending.attend_till_come.Given as goal

-- the door and the seats are as they were
abbrev pub invariant-loop : goal.invariant-loop
invariant-loop g l = record {
  can : (goal.iterator-loop g).can_next l.iterator';
  finite : (goal.iterator-loop g).is_finite l.iterator';
  buffer : 0 < length l.buffer;
  opened : g.D.Door.opened l.door ≡ g.D.Door.opened l.fn.door;
  faults : g.D.Door.door_faults l.door ≡ g.D.Door.door_faults l.fn.door;
  seats : l.seats ≡ l.fn.seats;
}
