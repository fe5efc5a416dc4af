-- What an ask comes to at a core.
use Rattle.std.specs.Prelude.{◌≡◌, Bool, true, false, Result, Ok, Err}
use Rattle.std.specs.declared.alloc.AllocError.{AllocError}
use Rattle.std.specs.Prelude.{alloc_error}
use Rattle.tc_asks.specs.declared.operands.OperandFault.{OperandFault}
use Rattle.tc_asks.specs.declared.operands.OperandFault.TheVariants as fault
use Rattle.tc_centre.specs.Centre.{Centre}
use Rattle.tc_centre.specs.Turns.{Serves}
use Rattle.tc_centre.specs.declared.answers.Answer.{Answer}
use Rattle.tc_centre.specs.declared.answers.Answer.TheVariants as answer
use Rattle.tc_centre.specs.declared.answers.TurnFault.{TurnFault}
use Rattle.tc_centre.specs.declared.answers.TurnFault.TheVariants as turn
use Rattle.tc_desk.specs.declared.rows.LogResult.{LogResult}
use Rattle.tc_desk.specs.declared.rows.LogResult.TheVariants as result
use Rattle.tc_desk.specs.declared.rows.Refusal.{Refusal}
use Rattle.tc_desk.specs.declared.rows.Refusal.TheVariants as refusal
use Rattle.tc_model.specs.declared.calls.CallId.{CallId}
use Rattle.tc_model.specs.declared.calls.Op.{Op}

-- why an ask with a faulty operand is refused; want of memory is no reason
abbrev pub refusal_of : OperandFault → Result Refusal AllocError
refusal_of fault.TooBig = Ok refusal.TooBig
refusal_of fault.NotGround = Ok refusal.NotGround
refusal_of (fault.BadSpec bad) = Ok (refusal.BadSpec bad)
refusal_of fault.NoMemory = Err alloc_error

-- what a turn says of an ask
abbrev pub result_of : Result Answer TurnFault → Result LogResult AllocError
result_of (Ok (answer.Replied reply)) = Ok (result.Replied reply)
result_of (Ok answer.Pending) = Ok result.Pending
result_of (Err (turn.Full weight pending)) = Ok (result.Refused (refusal.Full weight pending))
result_of (Err turn.NoMemory) = Err alloc_error

-- the call was served
pub record HasServed (id : CallId) (old new : Centre) : Type 0 where
  pub op : Op
  pub told : Answer
  pub serves : Serves old new id op told

-- the call was served, or else nothing has changed
abbrev pub Changes : CallId → Centre → Centre → Bool → Type 0
Changes id old new true = HasServed id old new
Changes id old new false = new ≡ old
