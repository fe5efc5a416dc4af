use Rattle.std.proofs.Common.{◌<◌, length, sym, subst}
use Rattle.tc_model.specs.Reactions.{AreClauses}
use Rattle.tc_model.specs.declared.limits.TheConstants.{MOST_CLAUSES}
use Rattle.tc_model.proofs.Rules.{AreClauses-push}
use Rattle.tc_model.proofs.reactions.Clauses.push.Goals as goal

pub invariant_of-self-2 : goal.invariant_of-self-2
invariant_of-self-2 c =
    subst AreClauses (sym c.in_ok-push.ensures.items)
    (AreClauses-push c.self.inside.items.items c.args.reaction c.self.invariant c.op-op.ensures.rule
    (subst (λ clauses. length clauses < MOST_CLAUSES) (sym c.self.view_is) c.requires))
