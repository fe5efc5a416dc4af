use Rattle.std.proofs.Common.{◌∙◌, ◌==◌, ℕ, IfNone, length, sym, ap, subst, true≢false, arith}
use Rattle.tucson.specs.Commands.{IsNumber}
use Rattle.tucson.proofs.Words.{number_none, number_whole}
use Rattle.tucson.proofs.command.number_of.Goals as goal

pub returns-in_err-number-clause-none : goal.returns-in_err-number-clause-none
returns-in_err-number-clause-none c =
    subst (λ r. IfNone r ((n : ℕ) → IsNumber c.args.word.now c.args.least c.args.most n → ⊥)) (sym c.from_residual.ensures)
    (number_none c.args.word.now c.args.least c.args.most c.in_err-number.ensures.none)

pub returns-then-not-is_empty-clause-none : goal.returns-then-not-is_empty-clause-none
returns-then-not-is_empty-clause-none c = λ n told.
    let same = number_whole c.args.word.now c.args.least c.args.most c.in_ok-number.number n c.in_ok-number.rest.now (omega arith) c.in_ok-number.ensures.found told in
    true≢false (sym (ap (λ r. length r == 0) same.0) ∙ sym c.is_empty.ensures ∙ c.if-not-is_empty.true)

pub returns-then-number-least-clause-none : goal.returns-then-number-least-clause-none
returns-then-number-least-clause-none c = λ n told.
    let same = number_whole c.args.word.now c.args.least c.args.most c.in_ok-number.number n c.in_ok-number.rest.now (omega arith) c.in_ok-number.ensures.found told in
    let some = told.some in
    absurd (omega (arith, some, same.1))
