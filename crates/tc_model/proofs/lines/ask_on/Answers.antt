use Rattle.std.proofs.Common.{sym, ◌∙◌}
use Rattle.tc_term.specs.TreeView.{tree_of}
use Rattle.tc_model.proofs.Written.{not_a_primitive}
use Rattle.tc_model.proofs.lines.ask_on.Goals as goal

pub returns : goal.returns
returns c =
    not_a_primitive c.args.name (tree_of c.args.operand) (λ p same. c.in-None.ensures.none p (same ∙ sym c.bytes.ensures))
