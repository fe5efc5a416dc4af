use Rattle.std.proofs.Common.{refl, ap}
use Rattle.tc_model.specs.declared.calls.Op.TheVariants.{SetSpec}
use Rattle.tc_model.specs.declared.outcomes.Outcome.TheVariants.{Done}
use Rattle.tc_model.specs.declared.outcomes.Reply.TheVariants as reply
use Rattle.tc_centre.specs.Held.{held}
use Rattle.tc_centre.specs.declared.answers.Answer.TheVariants.{Replied}
use Rattle.tc_centre.proofs.Specified.{served-still}
use Rattle.tc_centre.proofs.serving.set_spec.Goals as goal

pub returns-clause-served : goal.returns-clause-served
returns-clause-served c =
    let old = c.args.held.now in
    served-still old _ c.args.id (SetSpec c.args.clauses) Done c.empty.result c.requires.may.next c.requires.may.rest
    c.requires.may.room refl refl refl c.in_ok-push.ensures.items (Replied reply.Done) c.empty.ensures
    (ap (λ cs. held cs old.bag.now old.pending.now) c.requires.spec) (c.typed_id.ensures, c.typed.ensures, tt) refl
