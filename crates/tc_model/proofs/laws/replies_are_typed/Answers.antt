use Rattle.tc_model.proofs.TypedRuns.{reply_in-typed}
use Rattle.tc_model.proofs.laws.replies_are_typed.Goals as goal

pub returns : goal.returns
returns c = reply_in-typed
