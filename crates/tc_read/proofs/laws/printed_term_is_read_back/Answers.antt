use Rattle.tc_read.proofs.ReadBack.{term-read}
use Rattle.tc_read.proofs.laws.printed_term_is_read_back.Goals as goal

pub returns : goal.returns
returns c = term-read
