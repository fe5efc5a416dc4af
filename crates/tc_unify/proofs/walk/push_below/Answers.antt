use Rattle.std.proofs.Common.{refl}
use Rattle.tc_unify.specs.declared.walk.Mark.TheVariants.{Open}
use Rattle.tc_unify.proofs.WalkMarks.{IsMarked-seen, IsMarked-opened}
use Rattle.tc_unify.proofs.walk.push_below.Goals as goal

pub returns-in_err-push-2-clause-marked : goal.returns-in_err-push-2-clause-marked
returns-in_err-push-2-clause-marked c = λ marked. IsMarked-seen _ _ c.args.node marked c.requires refl c.in_ok-push.ensures.items

pub returns-in_err-push-3-clause-marked : goal.returns-in_err-push-3-clause-marked
returns-in_err-push-3-clause-marked c = λ marked. IsMarked-seen _ _ c.args.node marked c.requires refl c.in_ok-push.ensures.items

pub returns-in_err-push-4-clause-marked : goal.returns-in_err-push-4-clause-marked
returns-in_err-push-4-clause-marked c = λ marked. IsMarked-seen _ _ c.args.node marked c.requires refl c.in_ok-push.ensures.items

pub returns-clause-marked : goal.returns-clause-marked
returns-clause-marked c = λ marked. IsMarked-opened _ _ c.args.node Open marked c.requires refl c.in_ok-push.ensures.items
