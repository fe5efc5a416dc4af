use Rattle.std.proofs.Common.{◌≡◌, ◌++◌, true, false, subst, ap, ◌∙◌}
use Rattle.std.proofs.lemmas.Slice.Eq.{bytes_eq-Decides}
use Rattle.tc_model.specs.Reactions.{clauses_text}
use Rattle.tc_spec.specs.TextAnswers.{IsTextWant}
use Rattle.tc_histline.proofs.ClauseTexts.{clauses_text-spelt}
use Rattle.tc_histline.proofs.reading.clauses_of.Goals as goal

pub returns-in-Err-Bad-clause-none : goal.returns-in-Err-Bad-clause-none
returns-in-Err-Bad-clause-none c =
    λ cs are same. subst IsTextWant c.in-Err-Bad.field-0-is (c.in-Err-Bad.ensures.spelt cs (clauses_text-spelt cs c.args.text.now are same))

pub returns-clause-none : goal.returns-clause-none
returns-clause-none c =
    λ cs are same.
    let rules = c.in-Ok.ensures.same cs (clauses_text-spelt cs c.args.text.now are same) in
    let printed =
    c.as_slice.ensures.value
    ∙ (c.in_ok-print_spec.ensures.printed
    ∙ (ap (λ xs. xs ++ clauses_text c.in-Ok.clauses) c.new-printed.ensures.items ∙ (ap clauses_text rules ∙ same))) in
    let no : false ≡ true = c.if-eq.ensures ∙ (bytes_eq-Decides c.as_slice.result.now c.args.text.now).1 printed in
    cc
