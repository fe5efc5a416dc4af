use Rattle.std.proofs.Common.{ℕ, List, subst}
use Rattle.tc_config.specs.Good.{IsGood}
use Rattle.tc_io.specs.Sinks.{sink_of}
use Rattle.tc_model.specs.Choices.{TheFirst}
use Rattle.tucson.specs.Answer.{IsOutcomeOf}
use Rattle.tucson.specs.Ending.{Writes}
use Rattle.tucson.specs.Status.{status_of_run}
use Rattle.tucson.specs.Texts.{load_summary}
use Rattle.tucson.specs.declared.status.Status.{Status}
use Rattle.tucson.proofs.Outcomes.{due_written, run_outcome}
use Rattle.tucson.proofs.loading.load.Goals as goal

pub returns-in-Ok-clause-tells : goal.returns-in-Ok-clause-tells
returns-in-Ok-clause-tells g c =
    let text_of = load_summary c.args.agents c.args.start c.args.config in
    let blocked = c.in-Ok.blocked in
    let text = c.in-Ok.text.items in
    let old = sink_of g.K.Sink.taken g.K.Sink.write_faults g.K.Sink.sure c.args.sink.now in
    let new = sink_of g.K.Sink.taken g.K.Sink.write_faults g.K.Sink.sure c.written.new.sink in
    due_written (IsOutcomeOf (IsGood TheFirst c.args.config) text_of) (status_of_run blocked) text old new c.written.result
    (run_outcome (IsGood TheFirst c.args.config) text_of blocked text c.in-Ok.ensures)
    (subst (λ (t : List ℕ). Writes (status_of_run blocked) t old new c.written.result) c.deref.ensures.value
    (subst (λ (s : Status). Writes s c.deref.result.now old new c.written.result) c.status_of_run.ensures c.written.ensures.wrote))
