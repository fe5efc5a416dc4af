use Rattle.tc_term.proofs.Solutions.{IsTuple-value}
use Rattle.tc_term.proofs.laws.value_is_a_tuple.Goals as goal

pub returns : goal.returns
returns c = IsTuple-value
