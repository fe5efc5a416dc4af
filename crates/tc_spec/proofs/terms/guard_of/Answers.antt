use Rattle.std.proofs.Common.{ap, ◌∙◌}
use Rattle.tc_spec.specs.Written.{nested}
use Rattle.tc_spec.proofs.Nesting.{guard-by}
use Rattle.tc_spec.proofs.terms.guard_of.Goals as goal

pub returns : goal.returns
returns c =
    c.in_ok-nested.ensures ∙ ap nested c.in_ok-terms.ensures
    ∙ guard-by c.args.guard.now c.is_empty.result c.is_empty.ensures c.if-is_empty.false
