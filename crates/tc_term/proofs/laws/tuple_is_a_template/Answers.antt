use Rattle.tc_term.proofs.Numbered.{IsPattern-tuple}
use Rattle.tc_term.proofs.laws.tuple_is_a_template.Goals as goal

pub returns : goal.returns
returns c = IsPattern-tuple
