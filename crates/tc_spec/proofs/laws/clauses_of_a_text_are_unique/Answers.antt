use Rattle.tc_spec.proofs.OneText.{one_text}
use Rattle.tc_spec.proofs.laws.clauses_of_a_text_are_unique.Goals as goal

pub returns : goal.returns
returns c = one_text
