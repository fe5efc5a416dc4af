use Rattle.tc_cascade.proofs.Endings.{cascade_ends}
use Rattle.tc_cascade.proofs.laws.cascade_has_an_end.Goals as goal

pub returns : goal.returns
returns c = cascade_ends
