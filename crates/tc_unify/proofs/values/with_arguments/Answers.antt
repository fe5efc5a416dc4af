use Rattle.std.proofs.Common.{sym, ◌∙◌, ap, ◌<◌, length, arith}
use Rattle.std.proofs.lemmas.Grind.{common_steps}
use Rattle.tc_term.specs.Tree.{Compound}
use Rattle.tc_unify.proofs.Copied.{applied_over-compound}
use Rattle.tc_unify.proofs.values.with_arguments.Goals as goal

pub returns-in_ok-args : goal.returns-in_ok-args
returns-in_ok-args c =
    let some : 0 < length c.args.arguments.items = grind (arith, common_steps) in
    ap (Compound c.args.name) c.in_ok-args.ensures ∙ sym (applied_over-compound c.args.name c.args.arguments.items some)
