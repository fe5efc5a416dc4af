use Rattle.tc_read.proofs.AtFront.{printed-longest}
use Rattle.tc_read.proofs.laws.canonical_text_reads_back.Goals as goal

pub returns : goal.returns
returns c = printed-longest
