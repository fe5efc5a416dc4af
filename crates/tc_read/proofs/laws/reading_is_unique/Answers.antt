use Rattle.tc_read.proofs.OneReading.{one_reading}
use Rattle.tc_read.proofs.laws.reading_is_unique.Goals as goal

pub returns : goal.returns
returns c = one_reading
