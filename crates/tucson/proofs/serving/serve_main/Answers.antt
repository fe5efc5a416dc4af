use Rattle.std.proofs.Common.{[], refl, inl, inr, ⊎_elim}
use Rattle.tc_io.specs.Sinks.{sink_of}
use Rattle.tc_io.specs.Sources.{source_of}
use Rattle.tc_visits.specs.Service.{door_of}
use Rattle.tucson.specs.Answer.{Whole}
use Rattle.tucson.specs.declared.command.Command.TheVariants.{Serve}
use Rattle.tucson.proofs.Outcomes.{service_nets}
use Rattle.tucson.proofs.Stops.{stop_counts}
use Rattle.tucson.proofs.Returning.{reading_stops, returns-stopped, returns-told, serve_reads}
use Rattle.tucson.proofs.serving.serve_main.Goals as goal

pub returns-in-Ok : goal.returns-in-Ok
returns-in-Ok g c =
    let found = c.in-Ok.ensures.found in
    let old = sink_of g.K.Sink.taken g.K.Sink.write_faults g.K.Sink.sure c.args.sink.now in
    let new = sink_of g.K.Sink.taken g.K.Sink.write_faults g.K.Sink.sure c.serve.new.sink in
    let door = door_of g.D.Door.opened g.D.Door.door_faults c.args.door.now in
    let after = door_of g.D.Door.opened g.D.Door.door_faults c.serve.new.door in
    returns-told (Serve c.args.port)
    (source_of g.S.Source.left g.S.Source.read_faults g.S.Source.sure c.args.source.now)
    (source_of g.S.Source.left g.S.Source.read_faults g.S.Source.sure c.read_source.new.source)
    old new door after (Whole found.spelt) found.spelt [] c.in-Ok.config c.serve.result found.read (refl, refl) found.spells c.serve.ensures.tells
    (λ lacks. ⊎_elim (λ same. inl same) (λ used. inr (record { config = c.in-Ok.config; finds = found; used = used })) (c.serve.ensures.memory lacks))
    c.read_source.ensures.rest c.serve.ensures.reads (c.in-Ok.ensures.reads.unfailed (λ failed. cc)) c.serve.ensures.writes tt
    (service_nets door after c.in-Ok.config old new c.serve.result c.serve.ensures.tells)

pub returns-in-Err : goal.returns-in-Err
returns-in-Err g c =
    let source = source_of g.S.Source.left g.S.Source.read_faults g.S.Source.sure c.args.source.now in
    let after = source_of g.S.Source.left g.S.Source.read_faults g.S.Source.sure c.read_source.new.source in
    let why = c.in-Err.stop in
    let counts = stop_counts source.read_faults after.read_faults c.read_source.result why c.in-Err.is c.read_source.ensures.reads in
    returns-stopped (Serve c.args.port) source after
    (sink_of g.K.Sink.taken g.K.Sink.write_faults g.K.Sink.sure c.args.sink.now)
    (sink_of g.K.Sink.taken g.K.Sink.write_faults g.K.Sink.sure c.stopped.new.sink)
    (door_of g.D.Door.opened g.D.Door.door_faults c.args.door.now) why c.stopped.result (reading_stops (Serve c.args.port) source after why (serve_reads c.args.port) c.in-Err.ensures.stopped counts)
    c.read_source.ensures.rest counts
    c.stopped.ensures.tells c.stopped.ensures.reads c.stopped.ensures.writes
