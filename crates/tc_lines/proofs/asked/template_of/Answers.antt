use Rattle.std.proofs.Common.{sym, ap, subst, ◌∙◌, arith}
use Rattle.tc_lists.specs.Seen.{seen}
use Rattle.tc_lines.proofs.AskedLines.{text-read}
use Rattle.tc_lines.specs.Asked.{IsTextOf}
use Rattle.tc_lines.proofs.asked.template_of.Goals as goal

pub returns-in-Some-default-empty : goal.returns-in-Some-default-empty
returns-in-Some-default-empty c =
    let found = c.in-Some-default-empty in
    subst (IsTextOf c.args.bytes.now) (sym c.into_term.ensures.term)
    (text-read c.args.bytes.now found.pattern found.field-0-1.now (ap seen (sym found.is) ∙ c.in_ok-pattern.ensures) (omega arith))
