use Rattle.std.proofs.Common.{Some, None, if◌then◌else◌, sym, ap, ◌∙◌}
use Rattle.tc_lists.proofs.Options.{none_from_never}
use Rattle.tc_lists.specs.Seen.{seen}
use Rattle.tc_histline.specs.Words.{if_ground}
use Rattle.tc_histline.proofs.ReadWords.{if_ground-some}
use Rattle.tc_histline.proofs.read_words.tuple.Goals as goal

pub returns-in_default : goal.returns-in_default
returns-in_default c =
    ap if_ground (ap seen (sym (none_from_never c.in_ok-template.field-0 c.in_default.not-Some)) ∙ c.in_ok-template.ensures)

pub returns-in-Some-of_pattern : goal.returns-in-Some-of_pattern
returns-in-Some-of_pattern c =
    let rest = c.in-Some.rest.now in
    ap (λ u. Some (u, rest)) c.in-Some-of_pattern.ensures.some.0
    ∙ (sym (if_ground-some c.in-Some.template rest c.in-Some-of_pattern.ensures.some.1)
    ∙ ap if_ground (ap seen (sym c.in-Some.is) ∙ c.in_ok-template.ensures))

pub returns-in-None : goal.returns-in-None
returns-in-None c =
    sym (ap (λ b. if b then Some (c.in-Some.template, c.in-Some.rest.now) else None) c.in-None.ensures.none)
    ∙ ap if_ground (ap seen (sym c.in-Some.is) ∙ c.in_ok-template.ensures)
