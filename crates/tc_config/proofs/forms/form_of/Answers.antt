use Rattle.std.proofs.Common.{ap, sym, ◌∙◌}
use Rattle.tc_term.specs.TreeView.{tree_of}
use Rattle.tc_config.proofs.Spelling.{not_a_word}
use Rattle.tc_config.proofs.forms.form_of.Goals as goal

pub returns : goal.returns
returns c x form =
    not_a_word c.in-Comp.name c.in-Comp.args (λ w same. c.in-None.ensures.none w (same ∙ sym c.bytes.ensures)) x
    (sym (ap tree_of c.in-Comp.is) ∙ form.is)
