use Rattle.tc_session.proofs.Over.{memory_over}
use Rattle.tc_session.proofs.sending.prepare.Goals as goal

pub returns-in-Err-clause-steps : goal.returns-in-Err-clause-steps
returns-in-Err-clause-steps g c from held d before =
    memory_over from _ _ _ _ _ before c.finish.ensures.source c.reserve.ensures.items c.finish.ensures.finishes
