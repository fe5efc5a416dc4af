use Rattle.std.proofs.Common.{refl}
use Rattle.tc_session.proofs.SoFar.{flushed}
use Rattle.tc_session.proofs.Over.{no_memory, stopped}
use Rattle.tc_session.proofs.sending.flush.Goals as goal

pub returns-in-Ok-reserve-clause-steps : goal.returns-in-Ok-reserve-clause-steps
returns-in-Ok-reserve-clause-steps g c from held d before =
    flushed from _ _ _ _ _ before c.write_replies.ensures.source c.in-Ok.ensures.hands c.reserve.ensures.items

pub returns-in-Err-reserve-clause-steps : goal.returns-in-Err-reserve-clause-steps
returns-in-Err-reserve-clause-steps g c from held d before =
    no_memory from _ _ _ (flushed from _ _ _ _ _ before c.write_replies.ensures.source c.in-Ok.ensures.hands refl) c.in-Ok.ensures.empty refl refl

pub returns-in-Err-clause-steps : goal.returns-in-Err-clause-steps
returns-in-Err-clause-steps g c from held d before =
    stopped from _ _ _ _ _ before c.write_replies.ensures.source c.in-Err.ensures.hands c.stopped.ensures.ends c.stopped.ensures.stop
