use Rattle.tc_model.proofs.Histories.{numbers_rise}
use Rattle.tc_model.proofs.laws.numbers_rise.Goals as goal

pub returns : goal.returns
returns c = numbers_rise
