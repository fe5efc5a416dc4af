use Rattle.tc_read.proofs.Asked.{asked-read}
use Rattle.tc_read.proofs.laws.printed_request_is_read_back.Goals as goal

pub returns : goal.returns
returns c = asked-read
