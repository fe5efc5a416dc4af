use Rattle.std.proofs.Common.{take, refl}
use Rattle.tc_model.specs.declared.entries.Entry.TheVariants.{Called}
use Rattle.tc_calls.specs.Places.{lists_of}
use Rattle.tc_calls.proofs.AgentPlaces.{calls-below}
use Rattle.tc_calls.proofs.Noting.{noted-call, number-above}
use Rattle.tc_calls.proofs.places.note_call.Goals as goal

pub append-requires-clause-above : goal.append-requires-clause-above
append-requires-clause-above c =
    let call = c.requires.called in
    calls-below (lists_of c.args.places.now.items) (take c.args.place c.args.history.now) c.args.id c.requires.places
    (number-above c.args.history.now c.args.place c.requires.run (Called c.args.id call.op call.result call.items) call.stands
    c.args.id call.op call.result call.items refl)

pub returns-clause-places : goal.returns-clause-places
returns-clause-places c =
    let call = c.requires.called in
    noted-call c.args.history.now c.args.place c.requires.run (Called c.args.id call.op call.result call.items)
    call.stands (lists_of c.args.places.now.items) (lists_of c.append.new.places.items) c.requires.places
    c.args.id call.op call.result call.items refl c.append.ensures.puts
