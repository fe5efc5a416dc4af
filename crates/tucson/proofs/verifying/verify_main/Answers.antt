use Rattle.std.proofs.Common.{Some, refl, inl, inr, subst}
use Rattle.tc_io.specs.Sinks.{sink_of}
use Rattle.tc_io.specs.Sources.{source_of}
use Rattle.tucson.specs.Answer.{IsOutcomeOfVerdict, Whole}
use Rattle.tucson.specs.Ending.{Writes}
use Rattle.tucson.specs.declared.command.Command.TheVariants.{Verify}
use Rattle.tucson.proofs.Outcomes.{due_written}
use Rattle.tucson.proofs.Returning.{judged_sure, judging_stops, leaves, returns-stopped, returns-told}
use Rattle.tucson.proofs.Stops.{stop_counts}
use Rattle.tucson.proofs.verifying.verify_main.Goals as goal

pub written-requires : goal.written-requires
written-requires g c =
    let found = c.in-Ok.ensures.found.is in
    judged_sure found.text found.config c.in-Ok.status c.in-Ok.line found.outcome

pub returns-in-Ok : goal.returns-in-Ok
returns-in-Ok g c = λ door.
    let found = c.in-Ok.ensures.found in
    let old = sink_of g.K.Sink.taken g.K.Sink.write_faults g.K.Sink.sure c.args.sink.now in
    let new = sink_of g.K.Sink.taken g.K.Sink.write_faults g.K.Sink.sure c.written.new.sink in
    let wrote = subst (λ text. Writes c.in-Ok.status text old new c.written.result) c.items.ensures c.written.ensures.wrote in
    returns-told Verify
    (source_of g.S.Source.left g.S.Source.read_faults g.S.Source.sure c.args.source.now)
    (source_of g.S.Source.left g.S.Source.read_faults g.S.Source.sure c.read_verdict.new.source)
    old new door door (Whole found.input) found.is.spelt found.is.text found.is.config c.written.result found.read found.is.parts found.is.spells
    (due_written (IsOutcomeOfVerdict found.is.text found.is.config) c.in-Ok.status c.in-Ok.line old new c.written.result found.is.outcome wrote)
    (λ lacks. inl refl) c.read_verdict.ensures.rest c.written.ensures.reads (c.in-Ok.ensures.reads.unfailed (λ failed. cc)) c.written.ensures.writes (leaves (Some Verify) door) (λ other. inr refl)

pub returns-in-Err : goal.returns-in-Err
returns-in-Err g c = λ door.
    let source = source_of g.S.Source.left g.S.Source.read_faults g.S.Source.sure c.args.source.now in
    let after = source_of g.S.Source.left g.S.Source.read_faults g.S.Source.sure c.read_verdict.new.source in
    let why = c.in-Err.stop in
    let counts = stop_counts source.read_faults after.read_faults c.read_verdict.result why c.in-Err.is c.read_verdict.ensures.reads in
    returns-stopped Verify source after
    (sink_of g.K.Sink.taken g.K.Sink.write_faults g.K.Sink.sure c.args.sink.now)
    (sink_of g.K.Sink.taken g.K.Sink.write_faults g.K.Sink.sure c.stopped.new.sink)
    door why c.stopped.result (judging_stops source after why c.in-Err.ensures.stopped counts)
    c.read_verdict.ensures.rest counts
    c.stopped.ensures.tells c.stopped.ensures.reads c.stopped.ensures.writes
