use Rattle.std.proofs.Common.{◌∙◌, List, All, Vec, Global, ap, ap₂, subst}
use Rattle.tc_centre.specs.Centre.{Centre}
use Rattle.tc_desk.specs.Logs.{is_blocked, rows_of}
use Rattle.tc_desk.specs.Typed.{IsTypedRow}
use Rattle.tc_desk.specs.declared.rows.LogRow.{LogRow}
use Rattle.tc_model.specs.Typed.{IsTyped}
use Rattle.tc_runner.specs.Cores.{histories}
use Rattle.tucson.proofs.Counted.{few_of, first_of, last_of, summed}
use Rattle.tucson.proofs.loading.summary.Goals as goal

pub last_counts-requires : goal.last_counts-requires
last_counts-requires g c =
    let run = c.in_ok-run.run' in
    few_of c.args.config run.plan run.cores.items c.in_ok-run.ensures.plan c.in_ok-run.ensures.cores.are c.in_ok-run.ensures.cores.none
    c.deref-2.result.now c.deref.result.now c.deref-2.ensures.value
    (c.deref.ensures.value ∙ c.in_ok-first.ensures ∙ ap first_of c.centres.ensures.centres)

pub returns : goal.returns
returns g c =
    let run = c.in_ok-run.run' in
    summed c.args.config run.plan run.cores.items c.in_ok-run.ensures.plan c.in_ok-run.ensures.cores.are c.in_ok-run.ensures.cores.none
    c.args.agents c.args.start (rows_of run.logs.items) c.deref-6.result.now c.is_blocked-blocked.result c.new-text.result.items c.print_summary.new.into.items
    c.in_ok-run.ensures.good
    (c.deref-6.ensures.value ∙ c.in_ok-counts.ensures
    ∙ ap₂ last_of (c.deref.ensures.value ∙ c.in_ok-first.ensures ∙ ap first_of c.centres.ensures.centres) c.deref-2.ensures.value)
    (c.is_blocked-blocked.ensures ∙ ap (λ logs. is_blocked (rows_of logs)) c.deref-5.ensures.value)
    c.new-text.ensures.items c.in_ok-print_summary.ensures.appended
    (subst (λ (cores : List Centre). All (All IsTyped) (histories run.plan cores)) c.deref-3.ensures.value c.typed_histories.ensures)
    (subst (λ (logs : List (Vec LogRow Global)). All (All IsTypedRow) (rows_of logs)) c.deref-4.ensures.value c.typed_logs.ensures)
