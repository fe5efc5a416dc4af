-- What a turn of a centre does.
use Rattle.std.specs.Prelude.{◌≡◌, ℕ, Option, Some, None, List, [], ◌∷◌, ◌++◌}
use Rattle.std.specs.Prelude.{All}
use Rattle.tc_model.specs.Replies.{reply_in}
use Rattle.tc_model.specs.Calls.{call_of}
use Rattle.tc_model.specs.Run.{IsFirstRun, HasCall}
use Rattle.tc_model.specs.State.{IsQuiescent}
use Rattle.tc_model.specs.declared.calls.CallId.{CallId}
use Rattle.tc_model.specs.declared.calls.Op.{Op}
use Rattle.tc_model.specs.declared.items.Item.{Item}
use Rattle.tc_model.specs.declared.outcomes.Outcome.{Outcome}
use Rattle.tc_model.specs.declared.outcomes.Reply.{Reply}
use Rattle.tc_model.specs.declared.entries.Entry.{Entry}
use Rattle.tc_model.specs.declared.entries.Entry.TheVariants.{Called, Gave, Looked}
use Rattle.tc_centre.specs.Centre.{Centre, state_of, weight_in, waiting_in, IsFullCentre}
use Rattle.tc_calls.specs.Places.{IsGave}
use Rattle.tc_centre.specs.declared.answers.Answer.{Answer}
use Rattle.tc_centre.specs.declared.answers.Answer.TheVariants as answer
use Rattle.tc_centre.specs.declared.answers.TurnFault.{TurnFault}
use Rattle.tc_centre.specs.declared.answers.TurnFault.TheVariants as turn
use Rattle.tc_centre.specs.declared.answers.Poll.{Poll}
use Rattle.tc_centre.specs.declared.answers.Poll.TheVariants as poll
use Rattle.tc_centre.specs.declared.answers.PollFault.{PollFault}
use Rattle.tc_centre.specs.declared.answers.PollFault.TheVariants as fault

-- the caller is told the reply; that it is pending where there is none yet
abbrev pub IsAnswer : Option Reply → Answer → Type 0
IsAnswer reply (answer.Replied r) = reply ≡ Some r
IsAnswer reply answer.Pending = reply ≡ None

-- a call is served: its entry is appended, and then answers to requests, until none can be
-- answered; the history stays a run of first choices, and the caller is told the reply that it
-- gives
pub record Serves (old new : Centre) (id : CallId) (op : Op) (told : Answer) : Type 0 where
  pub result : Outcome
  pub items : List Item
  pub gaves : List Entry
  pub answers : All IsGave gaves
  pub appended : new ≡ record old { history = old.history ++ Called id op result items ∷ gaves }
  pub run : IsFirstRun new.origin new.history
  pub quiescent : IsQuiescent (state_of new)
  pub answer : IsAnswer (reply_in new.history id) told

-- why a turn is refused: the centre is full, with this weight and so many requests that wait
abbrev pub IsFullFault : Centre → TurnFault → Type 0
IsFullFault centre (turn.Full weight pending) =
    IsFullCentre centre × (weight ≡ weight_in centre) × (pending ≡ waiting_in centre)
IsFullFault centre turn.NoMemory = Unit {0}

-- the agent is told the reply, twice; that the call is pending where there is none yet
abbrev pub IsPoll : Option Reply → Poll → Type 0
IsPoll reply (poll.Answered r again) = (reply ≡ Some r) × (again ≡ r)
IsPoll reply poll.NotYet = reply ≡ None

-- an agent is told what became of an earlier call of its own, and an entry of that is appended
pub record Tells (old new : Centre) (id : CallId) (asked : ℕ) (told : Poll) : Type 0 where
  pub called : HasCall (call_of id.agent asked) old.history
  pub appended : new ≡ record old {
    history = old.history ++ Looked id asked (reply_in old.history (call_of id.agent asked)) ∷ [];
  }
  pub run : IsFirstRun new.origin new.history
  pub poll : IsPoll (reply_in old.history (call_of id.agent asked)) told

-- why a look is refused: the agent has made no such call, or the centre is full
abbrev pub IsPollRefused : Centre → CallId → ℕ → PollFault → Type 0
IsPollRefused centre id asked fault.Stranger =
    HasCall (call_of id.agent asked) centre.history → ⊥
IsPollRefused centre id asked (fault.Full weight pending) =
    HasCall (call_of id.agent asked) centre.history × IsFullCentre centre
    × (weight ≡ weight_in centre) × (pending ≡ waiting_in centre)
IsPollRefused centre id asked fault.NoMemory = Unit {0}
