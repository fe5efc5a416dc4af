use Rattle.std.proofs.Common.{subst, List, IsTrue, not, ◌↔◌}
use Rattle.tc_model.specs.Reactions.{Rule}
use Rattle.tc_spec.specs.Indexed.{HasOp}
use Rattle.tc_spec.proofs.Sifting.{has_by_test}
use Rattle.tc_spec.proofs.spec.Spec.has_op.Goals as goal

pub returns : goal.returns
returns c =
    subst (λ (cs : List Rule). IsTrue (not c.is_empty.result) ↔ HasOp c.args.op cs) c.self.view_is
    (has_by_test c.args.op c.self.inside.clauses c.numbers_in.result.now c.is_empty.result
    (c.numbers_in.ensures c.self.inside.clauses c.self.invariant) c.is_empty.ensures)
