-- What is told of an operand says what it is.
use Rattle.std.proofs.Common.{◌≡◌}
use Rattle.tc_model.specs.declared.asks.Ask.{Ask}
use Rattle.tc_desk.specs.Operands.{Operand, OpOf, Faulty}
use Rattle.tc_desk.specs.Operands as operand
use Rattle.tc_asks.specs.Operands.{IsFaultOf, IsOperandFault}
use Rattle.tc_asks.specs.declared.operands.OperandFault.{OperandFault}
use Rattle.tc_asks.specs.declared.operands.OperandFault.TheVariants.{TooBig, NotGround, BadSpec, NoMemory}

-- an operand has no other fault
pub one_fault : (ask : Ask) (o : Operand) → ((other : Operand) → OpOf ask other → o ≡ other) → (fault : OperandFault) →
    IsFaultOf ask fault → IsOperandFault o fault
one_fault ask o same TooBig is = same operand.TooBig is
one_fault ask o same NotGround is = same operand.NotGround is
one_fault ask o same (BadSpec bad) is = same (Faulty bad) is
one_fault ask o same NoMemory is = tt
