use Rattle.tc_model.proofs.Runs.{IsRun-first}
use Rattle.tc_model.proofs.laws.first_run_is_run.Goals as goal

pub returns : goal.returns
returns c = IsRun-first
