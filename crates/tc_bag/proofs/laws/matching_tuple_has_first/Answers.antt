use Rattle.tc_bag.proofs.Agreement.{HasFirst-match}
use Rattle.tc_bag.proofs.laws.matching_tuple_has_first.Goals as goal

pub returns : goal.returns
returns c = HasFirst-match
