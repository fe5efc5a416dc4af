use Rattle.std.proofs.Common.{◌-◌, List, subst, arith}
use Rattle.tc_model.specs.Reactions.{Rule}
use Rattle.tc_model.specs.Triggers.{IsClause}
use Rattle.tc_replay.specs.Replays.{wave_of}
use Rattle.tc_replay.proofs.Tried.{never-stands}
use Rattle.tc_replay.proofs.trying.is_tried.Goals as goal

pub returns-in_default-clause_at-clause-no : goal.returns-in_default-clause_at-clause-no
returns-in_default-clause_at-clause-no c = λ _.
    let n = c.in-Some.number in
    never-stands c.args.spec.now c.args.context.now (wave_of c.args.bag.now c.args.triggered.now) c.args.item.now
    (c.names_of-pick.result.0 - 1) (omega (arith, c.names_of-pick.ensures.0, c.if-pick-eq0.false)) n c.in-Some.event.now c.in-Some.ensures.some
    (subst (λ (cs : List Rule). (r : Rule) → IsClause cs n r → ⊥) c.clauses.ensures c.in_default-clause_at.ensures.none)
