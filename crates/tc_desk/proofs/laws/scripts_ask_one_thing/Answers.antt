use Rattle.tc_desk.proofs.Filling.{one_step, one_ask}
use Rattle.tc_desk.proofs.laws.scripts_ask_one_thing.Goals as goal

pub returns-clause-step : goal.returns-clause-step
returns-clause-step c = one_step

pub returns-clause-ask : goal.returns-clause-ask
returns-clause-ask c = one_ask
