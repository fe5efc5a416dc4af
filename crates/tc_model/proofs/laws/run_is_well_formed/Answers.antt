use Rattle.tc_model.proofs.Runs.{IsRun-well_formed}
use Rattle.tc_model.proofs.laws.run_is_well_formed.Goals as goal

pub returns : goal.returns
returns c = IsRun-well_formed
