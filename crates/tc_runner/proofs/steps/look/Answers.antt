use Rattle.std.proofs.Common.{◌-◌, ◌∙◌, true, sym, subst, set, arith, Option}
use Rattle.tc_desk.specs.declared.rows.LogRow.{LogRow}
use Rattle.tc_model.specs.declared.outcomes.Reply.{Reply}
use Rattle.tc_runner.specs.Steps.{IsLastAnswered, Looks}
use Rattle.tc_runner.proofs.Left.{IsAnswered-set}
use Rattle.tc_runner.proofs.steps.look.Goals as goal

pub returns-clause-looks : goal.returns-clause-looks
returns-clause-looks c =
    let log = c.args.log.now.items in
    let reply = c.in-Some.reply in
    let n = c.len-last.result - 1 in
    let count = c.len-last.ensures ∙ c.args.log.now.ok.0 in
    subst (λ (told : Option Reply). Looks told log (set log n c.settle.new.row) true) (sym c.in-Some.is ∙ c.in_ok-reply.ensures)
    (subst (λ (r : LogRow). IsLastAnswered reply log (set log n r)) (sym c.settle.ensures)
    (IsAnswered-set reply log n c.index_mut.result.now (omega (arith, count, c.requires.some)) c.index_mut.ensures.value))
