use Rattle.std.proofs.Common.{◌∙◌, Err, ap}
use Rattle.tc_desk.specs.Logs.{rows_of}
use Rattle.tc_io.specs.Sinks.{sink_of}
use Rattle.tc_runner.specs.Cores.{histories}
use Rattle.tucson.specs.Texts.{whole_text}
use Rattle.tucson.proofs.Told.{told_failed, told_memory, told_whole}
use Rattle.tucson.proofs.writing.write_whole.Goals as goal

pub returns-in-Ok-clause-wrote : goal.returns-in-Ok-clause-wrote
returns-in-Ok-clause-wrote g c =
    let run = c.args.run.now in
    told_whole (whole_text run.plan (histories run.plan run.cores.items) (rows_of run.logs.items))
    (sink_of g.K.Sink.taken g.K.Sink.write_faults g.K.Sink.sure c.args.sink.now)
    (sink_of g.K.Sink.taken g.K.Sink.write_faults g.K.Sink.sure c.write_text.new.sink) c.new-kept.result.items c.write_text.new.kept.items
    c.write_text.result c.new-kept.ensures.items c.write_text.ensures.hands
    c.args.status c.requires.status c.in-Ok.ensures.empty c.in-Ok.is

pub returns-in-Err-Failed-clause-wrote : goal.returns-in-Err-Failed-clause-wrote
returns-in-Err-Failed-clause-wrote g c =
    let run = c.args.run.now in
    told_failed (whole_text run.plan (histories run.plan run.cores.items) (rows_of run.logs.items))
    (sink_of g.K.Sink.taken g.K.Sink.write_faults g.K.Sink.sure c.args.sink.now)
    (sink_of g.K.Sink.taken g.K.Sink.write_faults g.K.Sink.sure c.write_text.new.sink) c.new-kept.result.items c.write_text.new.kept.items
    c.write_text.result c.new-kept.ensures.items c.write_text.ensures.hands
    c.args.status (c.in-Err-Failed.is ∙ ap Err c.in-Err-Failed.field-0-is)

pub returns-clause-wrote : goal.returns-clause-wrote
returns-clause-wrote g c =
    let run = c.args.run.now in
    told_memory (whole_text run.plan (histories run.plan run.cores.items) (rows_of run.logs.items))
    (sink_of g.K.Sink.taken g.K.Sink.write_faults g.K.Sink.sure c.args.sink.now)
    (sink_of g.K.Sink.taken g.K.Sink.write_faults g.K.Sink.sure c.write_text.new.sink) c.new-kept.result.items c.write_text.new.kept.items
    c.write_text.result c.new-kept.ensures.items c.write_text.ensures.hands
    c.args.status (c.in-Err-NoMemory.is ∙ ap Err c.in-Err-NoMemory.field-0-is)
