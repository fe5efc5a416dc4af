use Rattle.tc_desk.proofs.Operations.{one_operand}
use Rattle.tc_desk.proofs.laws.ask_is_one_operation.Goals as goal

pub returns : goal.returns
returns c = one_operand
