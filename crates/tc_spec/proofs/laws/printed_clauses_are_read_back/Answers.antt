use Rattle.tc_spec.proofs.PrintedTexts.{printed-spelt}
use Rattle.tc_spec.proofs.laws.printed_clauses_are_read_back.Goals as goal

pub returns : goal.returns
returns c = printed-spelt
