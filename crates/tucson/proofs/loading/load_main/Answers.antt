use Rattle.std.proofs.Common.{Some, [], refl, inl, inr}
use Rattle.tc_io.specs.Sinks.{sink_of}
use Rattle.tc_load.specs.Workload.{load_text}
use Rattle.tucson.specs.Answer.{Unread}
use Rattle.tucson.specs.declared.command.Command.TheVariants.{Load}
use Rattle.tucson.proofs.Returning.{leaves, loading_counts, loading_stops, reads_nothing, returns-stopped, returns-told}
use Rattle.tucson.proofs.loading.load_main.Goals as goal

pub returns-in-Ok : goal.returns-in-Ok
returns-in-Ok g c = λ source door.
    let command = Load c.args.agents c.args.start in
    returns-told command source source
    (sink_of g.K.Sink.taken g.K.Sink.write_faults g.K.Sink.sure c.args.sink.now)
    (sink_of g.K.Sink.taken g.K.Sink.write_faults g.K.Sink.sure c.load.new.sink)
    door door Unread (load_text c.args.agents c.args.start) [] c.in-Ok.config c.load.result refl (refl, refl) c.in-Ok.ensures.found c.load.ensures.tells
    (λ lacks. inl refl) (reads_nothing source.left) c.load.ensures.reads refl c.load.ensures.writes (leaves (Some command) door) (λ other. inr refl)

pub returns-in-Err : goal.returns-in-Err
returns-in-Err g c = λ source door.
    returns-stopped (Load c.args.agents c.args.start) source source
    (sink_of g.K.Sink.taken g.K.Sink.write_faults g.K.Sink.sure c.args.sink.now)
    (sink_of g.K.Sink.taken g.K.Sink.write_faults g.K.Sink.sure c.stopped.new.sink)
    door c.in-Err.stop c.stopped.result (loading_stops c.args.agents c.args.start source c.in-Err.stop c.in-Err.ensures.stopped)
    (reads_nothing source.left) (loading_counts (load_text c.args.agents c.args.start) source c.in-Err.stop c.in-Err.ensures.stopped)
    c.stopped.ensures.tells c.stopped.ensures.reads c.stopped.ensures.writes
