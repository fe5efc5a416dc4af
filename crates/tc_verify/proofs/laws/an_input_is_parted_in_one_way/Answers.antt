use Rattle.tc_verify.proofs.OneParting.{parted-one}
use Rattle.tc_verify.proofs.laws.an_input_is_parted_in_one_way.Goals as goal

pub returns : goal.returns
returns c input first second other rest is also = parted-one input first second other rest is also
