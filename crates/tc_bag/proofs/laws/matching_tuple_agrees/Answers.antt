use Rattle.tc_bag.proofs.Agreement.{Agrees-match}
use Rattle.tc_bag.proofs.laws.matching_tuple_agrees.Goals as goal

pub returns : goal.returns
returns c = Agrees-match
