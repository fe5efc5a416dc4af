use Rattle.tc_read.proofs.ReadNames.{names_found}
use Rattle.tc_read.proofs.laws.read_names_hold_no_control_bytes.Goals as goal

pub returns : goal.returns
returns c = names_found
