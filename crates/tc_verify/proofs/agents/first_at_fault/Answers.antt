use Rattle.std.proofs.Common.{IfNone, IfOk, IfSome, subst, sym}
use Rattle.tc_verify.specs.Verdicts.{AreRowsOf, IsFirstAtFault}
use Rattle.tc_verify.specs.declared.verdicts.Question.{Question}
use Rattle.tc_verify.proofs.agents.first_at_fault.Goals as goal

-- by what is asked, one of the two calls tells it
pub returns-in-Run-clause-faulty : goal.returns-in-Run-clause-faulty
returns-in-Run-clause-faulty c a known =
    subst (λ (q : Question). IfOk c.first_faulty.result (λ found. IfSome found
    (IsFirstAtFault q c.args.version c.args.config.now c.args.histories.now c.args.agent a c.args.rows.now)))
    (sym c.in-Run.is) (c.first_faulty.ensures.faulty a known)

pub returns-in-Run-clause-sound : goal.returns-in-Run-clause-sound
returns-in-Run-clause-sound c a known =
    subst (λ (q : Question). IfOk c.first_faulty.result (λ found. IfNone found
    (AreRowsOf q c.args.version c.args.config.now c.args.histories.now c.args.agent a c.args.rows.now)))
    (sym c.in-Run.is) (c.first_faulty.ensures.sound a known)

pub returns-in-Service-clause-faulty : goal.returns-in-Service-clause-faulty
returns-in-Service-clause-faulty c a known =
    subst (λ (q : Question). IfSome c.first_unserved.result
    (IsFirstAtFault q c.args.version c.args.config.now c.args.histories.now c.args.agent a c.args.rows.now))
    (sym c.in-Service.is) (c.first_unserved.ensures.unserved a known)

pub returns-in-Service-clause-sound : goal.returns-in-Service-clause-sound
returns-in-Service-clause-sound c a known =
    subst (λ (q : Question). IfNone c.first_unserved.result
    (AreRowsOf q c.args.version c.args.config.now c.args.histories.now c.args.agent a c.args.rows.now))
    (sym c.in-Service.is) (c.first_unserved.ensures.served a known)
