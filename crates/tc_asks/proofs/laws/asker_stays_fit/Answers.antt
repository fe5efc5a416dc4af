use Rattle.tc_asks.proofs.Taken.{taken_longer, taken_shorter}
use Rattle.tc_asks.proofs.laws.asker_stays_fit.Goals as goal

pub returns-clause-longer : goal.returns-clause-longer
returns-clause-longer c = taken_longer

pub returns-clause-settled : goal.returns-clause-settled
returns-clause-settled c = taken_shorter
