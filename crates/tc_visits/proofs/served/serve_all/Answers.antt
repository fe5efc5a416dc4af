use Rattle.std.proofs.Common.{◌∙◌, drop, length, map, ap, arith, length-append}
use Rattle.std.proofs.lemmas.List.{length-map}
use Rattle.tc_visits.specs.Seats.{SeatState}
use Rattle.tc_visits.proofs.Accepted.{all-served, lent-back}
use Rattle.tc_visits.proofs.served.serve_all.Goals as goal

pub collect-requires-clause-room : goal.collect-requires-clause-room
collect-requires-clause-room g c =
    let seats = c.seat_each.new.seats in
    let idle = c.seat_each.new.idle.items in
    let back = lent-back seats.items c.attend_to_the_end.new.seats (drop (length c.attend_to_the_end.new.seats) seats.items) seats.len
    (c.attend_to_the_end.ensures.seats ∙ c.deref_mut.ensures.value) seats.ok.0 in
    omega (
      arith,
      ap length back,
      ap length c.seat_each.ensures.kits,
      length-append (map (λ (s : SeatState). s.kit) seats.items) idle,
      length-map seats.items (λ (s : SeatState). s.kit),
      c.in_ok-seats.ensures.visits,
      c.len.ensures,
      c.args.kits.ok.0,
    )

pub returns-clause-served : goal.returns-clause-served
returns-clause-served g c =
    let seats = c.seat_each.new.seats in
    let back = lent-back seats.items c.attend_to_the_end.new.seats _ seats.len (c.attend_to_the_end.ensures.seats ∙ c.deref_mut.ensures.value) seats.ok.0 in
    all-served c.args.kits.items c.seat_each.new.idle.items seats.items _ c.collect.new.visits.items
    (g.D.Door.opened c.args.door.now) (g.D.Door.opened c.seat_each.new.door) (g.D.Door.opened c.attend_to_the_end.new.door)
    (g.D.Door.door_faults c.args.door.now) (g.D.Door.door_faults c.seat_each.new.door) (g.D.Door.door_faults c.attend_to_the_end.new.door)
    c.seat_each.ensures.kits c.seat_each.ensures.opened c.seat_each.ensures.all c.seat_each.ensures.lacking
    c.attend_to_the_end.ensures.opened c.attend_to_the_end.ensures.faults back c.collect.ensures.kits c.collect.ensures.connections
