use Rattle.std.proofs.Common.{subst, sym, List}
use Rattle.tc_model.specs.Reactions.{Rule}
use Rattle.tc_spec.specs.Indexed.{AreEnough}
use Rattle.tc_spec.proofs.spec.Spec.triggered.Goals as goal

pub triggered_of-requires : goal.triggered_of-requires
triggered_of-requires g c =
    subst (λ (cs : List Rule). AreEnough cs c.args.e.now c.numbers_for-numbers.result.now) (sym c.items-items.ensures.items)
    (c.numbers_for-numbers.ensures c.self.inside.clauses c.self.invariant)
