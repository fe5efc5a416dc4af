use Rattle.tc_model.proofs.TypedRuns.{IsTyped-first_run}
use Rattle.tc_model.proofs.laws.first_run_is_typed.Goals as goal

pub returns : goal.returns
returns c = IsTyped-first_run
