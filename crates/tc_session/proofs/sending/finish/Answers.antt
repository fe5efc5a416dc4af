use Rattle.std.proofs.Common.{Err}
use Rattle.tc_session.proofs.sending.finish.Goals as goal

pub returns-in-Err-clause-finishes : goal.returns-in-Err-clause-finishes
returns-in-Err-clause-finishes g c = record {
  wrote = Err c.in-Err.fault;
  hands = c.in-Err.ensures.hands;
  empty = tt;
  is = c.stopped.ensures.ends c.args.due;
}
