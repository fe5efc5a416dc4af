use Rattle.std.proofs.Common.{Some, [], refl, inl, inr}
use Rattle.tc_io.specs.Sinks.{sink_of}
use Rattle.tc_io.specs.Sources.{source_of}
use Rattle.tucson.specs.Answer.{Whole}
use Rattle.tucson.specs.declared.command.Command.TheVariants.{Run}
use Rattle.tucson.proofs.Stops.{stop_counts}
use Rattle.tucson.proofs.Returning.{leaves, reading_stops, returns-stopped, returns-told, run_reads}
use Rattle.tucson.proofs.running.run_main.Goals as goal

pub returns-in-Ok : goal.returns-in-Ok
returns-in-Ok g c = λ door.
    let found = c.in-Ok.ensures.found in
    let command = Run c.args.workers in
    returns-told command
    (source_of g.S.Source.left g.S.Source.read_faults g.S.Source.sure c.args.source.now)
    (source_of g.S.Source.left g.S.Source.read_faults g.S.Source.sure c.read_source_by.new.source)
    (sink_of g.K.Sink.taken g.K.Sink.write_faults g.K.Sink.sure c.args.sink.now)
    (sink_of g.K.Sink.taken g.K.Sink.write_faults g.K.Sink.sure c.run.new.sink)
    door door (Whole found.spelt) found.spelt [] c.in-Ok.config c.run.result found.read (refl, refl) found.spells c.run.ensures.tells (λ lacks. inl refl)
    c.read_source_by.ensures.rest c.run.ensures.reads
    (c.in-Ok.ensures.reads.unfailed (λ failed. cc)) c.run.ensures.writes (leaves (Some command) door) (λ other. inr refl)

pub returns-in-Err : goal.returns-in-Err
returns-in-Err g c = λ door.
    let source = source_of g.S.Source.left g.S.Source.read_faults g.S.Source.sure c.args.source.now in
    let after = source_of g.S.Source.left g.S.Source.read_faults g.S.Source.sure c.read_source_by.new.source in
    let why = c.in-Err.stop in
    let counts = stop_counts source.read_faults after.read_faults c.read_source_by.result why c.in-Err.is c.read_source_by.ensures.reads in
    returns-stopped (Run c.args.workers) source after
    (sink_of g.K.Sink.taken g.K.Sink.write_faults g.K.Sink.sure c.args.sink.now)
    (sink_of g.K.Sink.taken g.K.Sink.write_faults g.K.Sink.sure c.stopped.new.sink)
    door why c.stopped.result (reading_stops (Run c.args.workers) source after why (run_reads c.args.workers) c.in-Err.ensures.stopped counts)
    c.read_source_by.ensures.rest counts
    c.stopped.ensures.tells c.stopped.ensures.reads c.stopped.ensures.writes
