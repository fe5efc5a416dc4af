use Rattle.tc_read.proofs.ReadBack.{clause-read-back}
use Rattle.tc_read.proofs.laws.printed_clause_is_read_back.Goals as goal

pub returns : goal.returns
returns c = clause-read-back
