use Rattle.std.proofs.Common.{◌≡◌, ap, sym, ◌∙◌, subst, length, arith}
use Rattle.tc_term.proofs.Renumbering.{IsPattern-renumbered, length-variables-renumbered}
use Rattle.tc_term.specs.TreeView.{tree_of}
use Rattle.tc_term.specs.Variables.{variables_after, variables, IsTemplate, IsPattern}
use Rattle.tc_term.proofs.template.Pattern.of.Goals as goal

pub invariant_of-result : goal.invariant_of-result
invariant_of-result c =
    let t = tree_of c.args.t in
    let renumbered = c.in-Ok.ensures.ok in
    let seen : c.numbers-numbers.result.now ≡ variables t =
    c.numbers-numbers.ensures.numbers ∙ c.note.ensures.noted c.if-not-note.false
    ∙ ap (λ seen. variables_after seen t) c.new-seen.ensures in
    let template : IsTemplate t =
    record {
      fits = c.fits.ensures.exact.0 c.if-not-fits.false;
      few = omega (arith, ap length seen, c.numbers-numbers.ensures.few);
    } in (
      subst IsPattern (sym renumbered) (IsPattern-renumbered t template),
      ap length seen ∙ sym (ap (λ u. length (variables u)) renumbered ∙ length-variables-renumbered t),
    )
