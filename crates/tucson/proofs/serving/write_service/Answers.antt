use Rattle.std.proofs.Common.{◌≡◌, ◌∙◌, ap, subst}
use Rattle.tc_desk.specs.Logs.{is_blocked, rows_of}
use Rattle.tc_io.specs.Sinks.{sink_of}
use Rattle.tc_runner.specs.Cores.{histories}
use Rattle.tc_visits.specs.Service.{IsServiceBy}
use Rattle.tucson.specs.Answer.{IsOutcomeOfService}
use Rattle.tucson.specs.Ending.{Writes}
use Rattle.tucson.specs.Status.{status_of_service}
use Rattle.tucson.specs.Texts.{whole_text}
use Rattle.tucson.specs.declared.status.Status.{Status}
use Rattle.tucson.proofs.Outcomes.{due_written, service_outcome, text_of_these}
use Rattle.tucson.proofs.serving.write_service.Goals as goal

pub returns-clause-tells : goal.returns-clause-tells
returns-clause-tells g c = λ door after served.
    let s = c.args.service.now in
    let run = s.run in
    let logs = rows_of run.logs.items in
    let text = whole_text run.plan (histories run.plan run.cores.items) logs in
    let old = sink_of g.K.Sink.taken g.K.Sink.write_faults g.K.Sink.sure c.args.sink.now in
    let new = sink_of g.K.Sink.taken g.K.Sink.write_faults g.K.Sink.sure c.write_whole.new.sink in
    let blocked : c.is_blocked-blocked.result ≡ is_blocked logs =
    c.is_blocked-blocked.ensures ∙ ap (λ ls. is_blocked (rows_of ls)) c.deref.ensures.value in
    let status : c.status_of_service-status.result ≡ status_of_service s.all s.enough (is_blocked logs) =
    c.status_of_service-status.ensures ∙ ap (status_of_service s.all s.enough) blocked in
    due_written (IsOutcomeOfService door after run.plan) (status_of_service s.all s.enough (is_blocked logs)) text old new c.write_whole.result
    (service_outcome door after run.plan s.all s.enough (is_blocked logs) text
    (text_of_these (IsServiceBy door after s.all s.enough run.plan) (whole_text run.plan) (histories run.plan run.cores.items) logs served c.write_whole.ensures.typed c.write_whole.ensures.typed_logs))
    (subst (λ (st : Status). Writes st text old new c.write_whole.result) status c.write_whole.ensures.wrote)
