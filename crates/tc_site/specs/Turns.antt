-- What becomes of an agent's call in a turn at a centre.
use Rattle.std.specs.Prelude.{◌≡◌, ℕ, ◌<◌, List, ◌++◌, All, Option, Some, None, Ok}
use Rattle.std.specs.Prelude.{Err, alloc_error}
use Rattle.std.specs.declared.alloc.AllocError.{AllocError}
use Rattle.std.specs.declared.result.Result.{Result}
use Rattle.tc_desk.specs.declared.desks.Served.{Served}
use Rattle.tc_desk.specs.declared.desks.Served.TheVariants as served
use Rattle.tc_centre.specs.declared.answers.Answer.{Answer}
use Rattle.tc_centre.specs.declared.answers.Answer.TheVariants as answer
use Rattle.tc_desk.specs.declared.rows.LogResult.{LogResult}
use Rattle.tc_desk.specs.declared.rows.LogResult.TheVariants.{Replied, Pending, Refused, Polled}
use Rattle.tc_desk.specs.declared.rows.Refusal.{Refusal}
use Rattle.tc_desk.specs.declared.rows.Refusal.TheVariants as refusal
use Rattle.tc_model.specs.State.{Origin}
use Rattle.tc_model.specs.declared.calls.Op.{Op}
use Rattle.tc_model.specs.declared.entries.Entry.{Entry}
use Rattle.tc_model.specs.Calls.{id_of}
use Rattle.tc_shared.specs.Passes.{CallsInTurn, SeesFull, IsSpent}
use Rattle.tc_shared.specs.declared.answers.CallFault.{CallFault}
use Rattle.tc_shared.specs.declared.answers.CallFault.TheVariants as call
use Rattle.tc_turn.specs.Passes.{TurnstileState, PassState}
use Rattle.tc_site.specs.declared.waiting.WaitingAt.{WaitingAt}

-- why a call was refused in its turn, or for want of one
abbrev pub IsTurnRefused : TurnstileState Origin → PassState Entry Origin → Refusal
    → PassState Entry Origin → Type 0
IsTurnRefused t p refusal.TurnsSpent q = IsSpent p q
IsTurnRefused t p (refusal.Full weight pending) q = SeesFull t p weight pending q
IsTurnRefused t p refusal.UnknownCentre q = ⊥
IsTurnRefused t p refusal.Waiting q = ⊥
IsTurnRefused t p refusal.Denied q = ⊥
IsTurnRefused t p refusal.TooBig q = ⊥
IsTurnRefused t p refusal.NotGround q = ⊥
IsTurnRefused t p (refusal.BadSpec bad) q = ⊥
IsTurnRefused t p refusal.NoMemory q = ⊥

-- what the call of this number has come to
abbrev pub IsTurn : TurnstileState Origin → PassState Entry Origin → ℕ → Op → LogResult
    → PassState Entry Origin → Type 0
IsTurn t p number op (Replied reply) q = CallsInTurn t p number op (answer.Replied reply) q
IsTurn t p number op Pending q = CallsInTurn t p number op answer.Pending q
IsTurn t p number op (Refused why) q = IsTurnRefused t p why q
IsTurn t p number op (Polled told) q = ⊥

-- where a row is pending that has come to this
abbrev pub waiting_of : LogResult → ℕ → ℕ → Option WaitingAt
waiting_of Pending row centre = Some (record { row = row; centre = centre })
waiting_of (Replied reply) row centre = None
waiting_of (Refused why) row centre = None
waiting_of (Polled told) row centre = None

-- what is told of a call that has come to this
abbrev pub told_of : LogResult → Result Served Refusal
told_of Pending = Ok served.Pending
told_of (Replied reply) = Ok served.Replied
told_of (Refused why) = Err why
told_of (Polled told) = Ok served.Replied

-- what has become of a call that was answered so
abbrev pub became_of : Result Answer CallFault → Result LogResult AllocError
became_of (Ok (answer.Replied reply)) = Ok (Replied reply)
became_of (Ok answer.Pending) = Ok Pending
became_of (Err call.TurnsSpent) = Ok (Refused refusal.TurnsSpent)
became_of (Err (call.Full weight pending)) = Ok (Refused (refusal.Full weight pending))
became_of (Err call.NoMemory) = Err alloc_error

-- what a turn has made of a pass: the agent's new entries have numbers above this one
pub record HasGrown (top : ℕ) (p q : PassState Entry Origin) : Type 0 where
  pub more : List Entry
  pub grown : q.seen ≡ p.seen ++ more
  pub mine : List Entry
  pub mine_is : q.mine ≡ p.mine ++ mine
  pub above : All (λ e. top < (id_of e).number) mine
