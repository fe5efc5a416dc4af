use Rattle.std.proofs.Common.{◌≡◌, ◌<◌, length, map, vec_capacity}
use Rattle.tc_visits.specs.Seats.{SeatState}
use Rattle.tc_visits.specs.Serving.{kit_of}
use Rattle.tc_visits.specs.Visits.{VisitState}
use Rattle.tc_visits.proofs.serving.collect.Given as goal

-- the visits so far are those of the seats so far, and there is room for the others
abbrev pub invariant-loop-seat : goal.invariant-loop-seat
invariant-loop-seat g l = record {
  kits : map kit_of l.visits.items ≡ map (λ (s : SeatState). s.kit) l.yielded;
  connections : map (λ (v : VisitState). v.connection) l.visits.items ≡ map (λ (s : SeatState). s.connection) l.yielded;
  room : vec_capacity l.visits ≡ vec_capacity l.fn.visits;
  buffer : 0 < length l.buffer;
}
