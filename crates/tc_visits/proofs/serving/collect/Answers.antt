use Rattle.std.proofs.Common.{◌∙◌, length, map, map-id, rules, sym, ap, arith}
use Rattle.std.proofs.lemmas.List.{length-map}
use Rattle.std.proofs.lemmas.Iterator.Adapters.{YieldsList-from_vec}
use Rattle.std.proofs.lemmas.Iterator.Consumers.{YieldsList-end, YieldsList-turn}
use Rattle.tc_visits.specs.Seats.{SeatState}
use Rattle.tc_visits.specs.Serving.{kit_of}
use Rattle.tc_visits.proofs.serving.collect.Goals as goal

pub push_reserved-requires : goal.push_reserved-requires
push_reserved-requires g c =
    let turn = YieldsList-turn (YieldsList-from_vec {s = c.into_iter-seat-iterator.result} c.args.seats.items (search rules) (search rules))
    c.loop-seat.yielded c.loop-seat.seat-iterator c.loop-seat.yielded_by c.next.result c.next.new.self c.in-Some.seat c.in-Some.is c.next.ensures.steps in
    omega (
      arith,
      turn.0,
      ap length c.loop-seat.invariant.kits,
      length-map c.loop-seat.visits.items kit_of,
      length-map c.loop-seat.yielded (λ (s : SeatState). s.kit),
      c.loop-seat.invariant.room,
      c.requires.room,
      c.loop-seat.visits.ok.0,
    )

pub returns-clause-kits : goal.returns-clause-kits
returns-clause-kits g c =
    let all = YieldsList-end (YieldsList-from_vec {s = c.into_iter-seat-iterator.result} c.args.seats.items (search rules) (search rules))
    c.loop-seat.yielded c.loop-seat.seat-iterator c.loop-seat.yielded_by c.next.result c.next.new.self c.in-None.is c.next.ensures.steps in
    c.loop-seat.invariant.kits ∙ ap (map (λ (s : SeatState). s.kit)) (sym (map-id c.loop-seat.yielded) ∙ all.0)

pub returns-clause-connections : goal.returns-clause-connections
returns-clause-connections g c =
    let all = YieldsList-end (YieldsList-from_vec {s = c.into_iter-seat-iterator.result} c.args.seats.items (search rules) (search rules))
    c.loop-seat.yielded c.loop-seat.seat-iterator c.loop-seat.yielded_by c.next.result c.next.new.self c.in-None.is c.next.ensures.steps in
    c.loop-seat.invariant.connections ∙ ap (map (λ (s : SeatState). s.connection)) (sym (map-id c.loop-seat.yielded) ∙ all.0)
