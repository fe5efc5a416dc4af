use Rattle.std.proofs.Common.{sym, subst, arith}
use Rattle.tc_calls.specs.Places.{ArePlaces}
use Rattle.tc_calls.proofs.AgentPlaces.{room-set, same-set}
use Rattle.tc_calls.proofs.places.make_room.Goals as goal

pub returns-in_err-reserve-clause-kept : goal.returns-in_err-reserve-clause-kept
returns-in_err-reserve-clause-kept c = λ history.
    subst (λ lists. ArePlaces lists history)
    (sym (same-set c.args.places.now.items c.args.agent c.index_mut.result.now c.requires c.index_mut.ensures.value
    c.reserve.new.self c.reserve.ensures.items))

pub returns-clause-room : goal.returns-clause-room
returns-clause-room c =
    room-set c.args.places.now.items c.args.agent c.index_mut.result.now c.requires c.index_mut.ensures.value c.reserve.new.self
    (omega (arith, c.in_ok-reserve.ensures.ok))

pub returns-clause-kept : goal.returns-clause-kept
returns-clause-kept c = λ history.
    subst (λ lists. ArePlaces lists history)
    (sym (same-set c.args.places.now.items c.args.agent c.index_mut.result.now c.requires c.index_mut.ensures.value
    c.reserve.new.self c.reserve.ensures.items))
