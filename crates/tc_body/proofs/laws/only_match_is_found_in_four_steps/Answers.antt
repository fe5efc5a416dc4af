use Rattle.tc_body.proofs.Costs.{four_steps}
use Rattle.tc_body.proofs.laws.only_match_is_found_in_four_steps.Goals as goal

pub returns : goal.returns
returns c = four_steps
