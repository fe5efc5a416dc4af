use Rattle.std.proofs.Common.{ap, sym, ◌∙◌}
use Rattle.tc_print.proofs.Numbers.{insert_key-with_number, place_in-index, place_in-with_number_new}
use Rattle.tc_term.specs.Variables.{place_in, with_number}
use Rattle.tc_print.proofs.numbering.Numbering.number.Goals as goal

pub returns-clause-seen : goal.returns-clause-seen
returns-clause-seen c =
    c.in_ok-number.ensures.keys ∙ insert_key-with_number c.self.inside.seen.keys c.args.variable
    ∙ ap (λ seen. with_number seen c.args.variable) c.self.view_is

pub returns-clause-number : goal.returns-clause-number
returns-clause-number c =
    let old = c.self.inside.seen.keys in
    let n = c.args.variable in
    c.in_ok-number.ensures.index ∙ sym (place_in-index old n) ∙ sym (place_in-with_number_new old n)
    ∙ ap (λ seen. place_in seen n) (sym (c.in_ok-number.ensures.keys ∙ insert_key-with_number old n))
