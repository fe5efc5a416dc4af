-- What a poll for the reply to a pending row makes of a pass and a log.
use Rattle.std.specs.Prelude.{◌≡◌, ℕ, ◌+◌, List, length, Some, None, Ok, Err, ◌⊎◌}
use Rattle.std.specs.declared.result.Result.{Result}
use Rattle.tc_centre.specs.declared.answers.Poll.TheVariants as poll
use Rattle.tc_desk.specs.Desks.{PutsReply, with_row}
use Rattle.tc_desk.specs.declared.desks.DeskFault.{DeskFault}
use Rattle.tc_desk.specs.declared.desks.DeskFault.TheVariants as fault
use Rattle.tc_desk.specs.declared.desks.Seen.{Seen}
use Rattle.tc_desk.specs.declared.desks.Seen.TheVariants as seen
use Rattle.tc_desk.specs.declared.rows.LogRow.{LogRow}
use Rattle.tc_desk.specs.declared.rows.LogResult.TheVariants.{Refused, Polled}
use Rattle.tc_desk.specs.declared.rows.Refusal.TheVariants as refusal
use Rattle.tc_model.specs.State.{Origin}
use Rattle.tc_model.specs.declared.entries.Entry.{Entry}
use Rattle.tc_model.specs.declared.outcomes.Reply.{Reply}
use Rattle.tc_shared.specs.Passes.{IsSpent, SeesFull, SeesRoom, PollsInTurn}
use Rattle.tc_turn.specs.Passes.{TurnstileState, PassState}

-- the poll told the reply to the call of the row at a place: that row has got it, and behind the
-- log stands a row of the poll, of this centre
pub record HasToldReply (t : TurnstileState Origin) (place : ℕ) (p : PassState Entry Origin)
    (centre : List ℕ) (log : List LogRow) (q : PassState Entry Origin) (after : List LogRow)
    : Type 0 where
  pub reply : Reply
  pub again : Reply
  pub tells : PollsInTurn t p (length log + 1) (place + 1) (poll.Answered reply again) q
  pub put : PutsReply (with_row log centre None (Polled (Some again))) place reply after

-- what came of one poll; where memory ran out before its turn, the pass is as it was, and in its
-- turn, that turn found room
abbrev pub IsPolled : TurnstileState Origin → ℕ → PassState Entry Origin → List ℕ
    → List LogRow
    → Result Seen DeskFault → PassState Entry Origin → List LogRow → Type 0
IsPolled t place p centre log (Ok seen.Answered) q after = HasToldReply t place p centre log q after
IsPolled t place p centre log (Ok seen.StillPending) q after =
    PollsInTurn t p (length log + 1) (place + 1) poll.NotYet q
    × (after ≡ with_row log centre None (Polled None))
IsPolled t place p centre log (Err (fault.Full weight pending)) q after =
    SeesFull t p weight pending q
    × (after ≡ with_row log centre None (Refused (refusal.Full weight pending)))
IsPolled t place p centre log (Err fault.TurnsSpent) q after = IsSpent p q × (after ≡ log)
IsPolled t place p centre log (Err fault.NoMemory) q after =
    (SeesRoom t p q ⊎ (q ≡ p)) × (after ≡ log)
IsPolled t place p centre log (Err fault.Idle) q after = ⊥
