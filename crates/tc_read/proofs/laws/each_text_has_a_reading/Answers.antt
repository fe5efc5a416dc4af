use Rattle.tc_read.proofs.AllRead.{some_reading}
use Rattle.tc_read.proofs.laws.each_text_has_a_reading.Goals as goal

pub returns : goal.returns
returns c = some_reading
