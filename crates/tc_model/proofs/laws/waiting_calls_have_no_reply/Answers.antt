use Rattle.tc_model.proofs.WaitingCalls.{waiting-run}
use Rattle.tc_model.proofs.laws.waiting_calls_have_no_reply.Goals as goal

pub returns : goal.returns
returns c = waiting-run
