use Rattle.std.proofs.Common.{◌≡◌, ◌⊎◌, ◌<◌, [], ◌++◌, length, map, true, false, vec_capacity}
use Rattle.tc_io.specs.Faults.{CountRises}
use Rattle.tc_visits.specs.Seats.{SeatState}
use Rattle.tc_visits.specs.Serving.{opened_all}
use Rattle.tc_visits.proofs.serving.seat_each.Given as goal

-- each kit so far has a seat or is idle; the door has opened what has one; no call of it has failed where none is idle, and else one has
abbrev pub invariant-loop-kit : goal.invariant-loop-kit
invariant-loop-kit g l = record {
  kits : map (λ (s : SeatState). s.kit) l.seats.items ++ l.idle.items ≡ l.yielded;
  opened : g.D.Door.opened l.door ≡ opened_all (g.D.Door.opened l.fn.door) (map (λ (s : SeatState). s.connection) l.seats.items);
  faults : ((l.goes_on ≡ true) × (l.idle.items ≡ []) × (g.D.Door.door_faults l.door ≡ g.D.Door.door_faults l.fn.door))
      ⊎ ((l.goes_on ≡ false) × (l.idle.items ≡ [] → ⊥) × CountRises (g.D.Door.door_faults l.fn.door) (g.D.Door.door_faults l.door));
  room : vec_capacity l.seats ≡ vec_capacity l.fn.seats;
  room_idle : vec_capacity l.idle ≡ vec_capacity l.fn.idle;
  buffer : 0 < length l.buffer;
}
