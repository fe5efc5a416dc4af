use Rattle.std.proofs.Common.{◌<◌, subst, sym}
use Rattle.tc_calls.specs.Calls.{IsAbove, Rises}
use Rattle.tc_calls.proofs.AgentPlaces.{calls-at, puts-set, room-at, room-inside}
use Rattle.tc_calls.proofs.places.append.Goals as goal

pub index_mut-requires : goal.index_mut-requires
index_mut-requires c =
    subst (λ n. c.args.id.agent < n) (sym c.args.places.now.ok.0) (room-inside c.args.places.now.items c.args.id.agent c.requires.room)

pub put_behind-requires-clause-room : goal.put_behind-requires-clause-room
put_behind-requires-clause-room c =
    room-at c.args.places.now.items c.args.id.agent c.index_mut.result.now (room-inside c.args.places.now.items c.args.id.agent c.requires.room)
    c.index_mut.ensures.value c.requires.room

pub put_behind-requires-clause-rises : goal.put_behind-requires-clause-rises
put_behind-requires-clause-rises c =
    subst Rises
    (calls-at c.args.places.now.items c.args.id.agent c.index_mut.result.now
    (room-inside c.args.places.now.items c.args.id.agent c.requires.room) c.index_mut.ensures.value)
    c.requires.rises

pub put_behind-requires-clause-above : goal.put_behind-requires-clause-above
put_behind-requires-clause-above c =
    subst (IsAbove c.args.id.number)
    (calls-at c.args.places.now.items c.args.id.agent c.index_mut.result.now
    (room-inside c.args.places.now.items c.args.id.agent c.requires.room) c.index_mut.ensures.value)
    c.requires.above

pub returns-clause-puts : goal.returns-clause-puts
returns-clause-puts c =
    puts-set c.args.places.now.items c.args.id.agent c.index_mut.result.now
    (room-inside c.args.places.now.items c.args.id.agent c.requires.room) c.index_mut.ensures.value
    c.args.id.number c.args.place c.put_behind.new.calls c.put_behind.ensures.places c.put_behind.ensures.rises
