use Rattle.std.proofs.Common.{◌≡◌}
use Rattle.std.proofs.lemmas.Result.{IfErr-weaker, IfOk-weaker}
use Rattle.tc_desk.specs.Operands.{OpOf, Sound}
use Rattle.tc_asks.specs.Operands.{IsFaultOf, IsOperandFault}
use Rattle.tc_asks.proofs.Faults.{one_fault}
use Rattle.tc_asks.proofs.operands.op_of.Goals as goal

pub returns-clause-same : goal.returns-clause-same
returns-clause-same c o is =
    IfOk-weaker c.answer_of-answer.result (λ op. OpOf c.args.ask (Sound op)) (λ op. o ≡ Sound op)
    (λ op other. c.ask_is_one_operation.ensures c.args.ask o (Sound op) is other) c.answer_of-answer.ensures.op

pub returns-clause-first : goal.returns-clause-first
returns-clause-first c o is =
    IfErr-weaker c.answer_of-answer.result (IsFaultOf c.args.ask) (IsOperandFault o)
    (one_fault c.args.ask o (λ other. c.ask_is_one_operation.ensures c.args.ask o other is)) c.answer_of-answer.ensures.fault
