use Rattle.tc_session.proofs.Staying.{replies_split}
use Rattle.tc_session.proofs.laws.replies_of_a_front_are_a_front.Goals as goal

pub returns : goal.returns
returns c = replies_split
