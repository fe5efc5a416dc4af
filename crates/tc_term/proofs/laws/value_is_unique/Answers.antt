use Rattle.tc_term.proofs.Solutions.{HasValue-unique}
use Rattle.tc_term.proofs.laws.value_is_unique.Goals as goal

pub returns : goal.returns
returns c = HasValue-unique
