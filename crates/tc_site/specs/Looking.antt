-- What a look for the reply to a pending row makes of a pass and a log.
use Rattle.std.specs.Prelude.{◌≡◌, ℕ, ◌+◌, ◌<◌, false, List}
use Rattle.std.specs.Prelude.{length, Option, Some, None, Ok, Err}
use Rattle.std.specs.declared.result.Result.{Result}
use Rattle.tc_desk.specs.Desks.{PutsReply}
use Rattle.tc_desk.specs.declared.desks.DeskFault.{DeskFault}
use Rattle.tc_desk.specs.declared.desks.DeskFault.TheVariants as fault
use Rattle.tc_desk.specs.declared.desks.Seen.{Seen}
use Rattle.tc_desk.specs.declared.desks.Seen.TheVariants as seen
use Rattle.tc_desk.specs.declared.rows.LogRow.{LogRow}
use Rattle.tc_model.specs.Replies.{reply_in}
use Rattle.tc_model.specs.Run.{HasCall}
use Rattle.tc_model.specs.State.{Origin}
use Rattle.tc_model.specs.declared.entries.Entry.{Entry}
use Rattle.tc_model.specs.declared.outcomes.Reply.{Reply}
use Rattle.tc_model.specs.Calls.{call_of}
use Rattle.tc_shared.specs.Passes.{IsPassOf, IsSpent, Sees}
use Rattle.tc_turn.specs.Passes.{TurnstileState, PassState}
use Rattle.tc_site.specs.declared.waiting.WaitingAt.{WaitingAt}

-- the pass is of the centre, holds no turn, and has seen the call of the log's row at a place
pub record MayLook (t : TurnstileState Origin) (p : PassState Entry Origin) (log : List LogRow)
    (place : ℕ)
    : Type 0 where
  pub own : IsPassOf t p
  pub free : p.holds ≡ false
  pub inside : place < length log
  pub called : HasCall (call_of p.number (place + 1)) p.seen

-- the call of the row at a place has a reply in what the pass q has seen, and its row has got it
pub record HasRowReply (place : ℕ) (log : List LogRow) (q : PassState Entry Origin)
    (after : List LogRow)
    : Type 0 where
  pub reply : Reply
  pub told : reply_in q.seen (call_of q.number (place + 1)) ≡ Some reply
  pub put : PutsReply log place reply after

-- it has none, and the log is as it was
pub record HasNone (place : ℕ) (log : List LogRow) (q : PassState Entry Origin)
    (after : List LogRow)
    : Type 0 where
  pub none : reply_in q.seen (call_of q.number (place + 1)) ≡ None
  pub same : after ≡ log

-- what came of one look
abbrev pub IsLook : TurnstileState Origin → ℕ → PassState Entry Origin → List LogRow
    → Result Seen DeskFault → PassState Entry Origin → List LogRow → Type 0
IsLook t place p log (Ok seen.Answered) q after = Sees t p q × HasRowReply place log q after
IsLook t place p log (Ok seen.StillPending) q after = Sees t p q × HasNone place log q after
IsLook t place p log (Err fault.TurnsSpent) q after = IsSpent p q × (after ≡ log)
IsLook t place p log (Err fault.NoMemory) q after = Sees t p q × (after ≡ log)
IsLook t place p log (Err fault.Idle) q after = ⊥
IsLook t place p log (Err (fault.Full weight pending)) q after = ⊥

-- where a row is pending still, after a look
abbrev pub still_of : WaitingAt → Result Seen DeskFault → Option WaitingAt
still_of w (Ok seen.Answered) = None
still_of w (Ok seen.StillPending) = Some w
still_of w (Err why) = Some w

-- why a wait put no reply: no turn is left, and if one was, the call has no reply in what the pass
-- has seen
pub record HasWaitedInVain (place : ℕ) (p : PassState Entry Origin) (log : List LogRow)
    (q : PassState Entry Origin) (after : List LogRow) : Type 0 where
  pub spent : q.turns ≡ 0
  pub same : p.turns ≡ 0 → q ≡ p
  pub none : 0 < p.turns → reply_in q.seen (call_of p.number (place + 1)) ≡ None
  pub log_same : after ≡ log

-- what came of a wait
abbrev pub IsWait : {A : Type 0} → ℕ → PassState Entry Origin → List LogRow
    → Result A DeskFault
    → PassState Entry Origin → List LogRow → Type 0
IsWait place p log (Ok done) q after = HasRowReply place log q after
IsWait place p log (Err fault.TurnsSpent) q after = HasWaitedInVain place p log q after
IsWait place p log (Err fault.NoMemory) q after = after ≡ log
IsWait place p log (Err fault.Idle) q after = ⊥
IsWait place p log (Err (fault.Full weight pending)) q after = ⊥

-- where a row is pending still, after a wait
abbrev pub left_of : {A : Type 0} → WaitingAt → Result A DeskFault → Option WaitingAt
left_of w (Ok done) = None
left_of w (Err why) = Some w
