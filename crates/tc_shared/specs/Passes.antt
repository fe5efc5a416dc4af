-- What an agent's pass of a shared centre knows, and what each call does to it.
use Rattle.std.specs.Prelude.{◌≡◌, ℕ, ◌+◌, ◌-◌, ◌<◌, ◌≤◌, Option, None}
use Rattle.std.specs.Prelude.{List, [], ◌∷◌, ◌++◌, All}
use Rattle.std.specs.Prelude.{false, true, length}
use mathlib.Core.List.{IsPrefix}
use Rattle.tc_model.specs.Calls.{call_of, calls_of}
use Rattle.tc_model.specs.Entries as entries
use Rattle.tc_model.specs.Entries.{IsFull, pending_after}
use Rattle.tc_model.specs.Replies.{reply_in}
use Rattle.tc_model.specs.Run.{IsFirstRun, HasCall}
use Rattle.tc_model.specs.State.{Origin, IsQuiescent, opening, after_history}
use Rattle.tc_model.specs.declared.limits.TheConstants.{MOST_WEIGHT}
use Rattle.tc_model.specs.declared.calls.Op.{Op}
use Rattle.tc_model.specs.declared.items.Item.{Item}
use Rattle.tc_model.specs.declared.outcomes.Outcome.{Outcome}
use Rattle.tc_model.specs.declared.outcomes.Reply.{Reply}
use Rattle.tc_model.specs.declared.entries.Entry.{Entry}
use Rattle.tc_model.specs.declared.entries.Entry.TheVariants.{Called, Looked}
use Rattle.tc_centre.specs.Centre.{Centre}
use Rattle.tc_calls.specs.Places.{IsGave}
use Rattle.tc_centre.specs.Turns.{IsAnswer, IsPoll}
use Rattle.tc_centre.specs.declared.answers.Answer.{Answer}
use Rattle.tc_centre.specs.declared.answers.Poll.{Poll}
use Rattle.tc_centre.specs.declared.answers.TurnFault.{TurnFault}
use Rattle.tc_centre.specs.declared.answers.TurnFault.TheVariants as turn
use Rattle.tc_centre.specs.declared.answers.PollFault.{PollFault}
use Rattle.tc_centre.specs.declared.answers.PollFault.TheVariants as poll
use Rattle.tc_turn.specs.Passes as turnstile
use Rattle.tc_turn.specs.Passes.{TurnstileState, PassState}
use Rattle.tc_shared.specs.declared.answers.CallFault.{CallFault}
use Rattle.tc_shared.specs.declared.answers.CallFault.TheVariants as call
use Rattle.tc_shared.specs.declared.answers.LookFault.{LookFault}
use Rattle.tc_shared.specs.declared.answers.LookFault.TheVariants as look
use Rattle.tc_shared.specs.declared.answers.SharedPollFault.{SharedPollFault}
use Rattle.tc_shared.specs.declared.answers.SharedPollFault.TheVariants as shared

-- the same fault, of a turn and of a call
abbrev pub IsSameFault : TurnFault → CallFault → Type 0
IsSameFault (turn.Full weight pending) fault = fault ≡ call.Full weight pending
IsSameFault turn.NoMemory fault = fault ≡ call.NoMemory

-- the same fault, of a core's poll and of a shared centre's
abbrev pub IsSamePollFault : PollFault → SharedPollFault → Type 0
IsSamePollFault poll.Stranger fault = fault ≡ shared.Stranger
IsSamePollFault (poll.Full weight pending) fault = fault ≡ shared.Full weight pending
IsSamePollFault poll.NoMemory fault = fault ≡ shared.NoMemory

-- the history is a run of first choices, at whose end no request that waits can be answered, and
-- isn't too heavy
pub record IsAtRest (origin : Origin) (history : List Entry) : Type 0 where
  pub run : IsFirstRun origin history
  pub quiescent : IsQuiescent (after_history (opening origin) history)
  pub light : entries.weight history ≤ MOST_WEIGHT

-- p is the pass of one of the centre's agents: it knows a history at rest, and the agent's own
-- entries in it
pub record IsPassOf (t : TurnstileState Origin) (p : PassState Entry Origin) : Type 0 where
  pub own : turnstile.IsPassOfTurnstile t p
  pub agent : p.number < length t.origin.agents
  pub rest : IsAtRest t.origin p.seen
  pub mine : calls_of p.number p.seen ≡ p.mine

-- p is the pass of one of the centre's agents who has made no entry, and holds no turn
pub record IsFreshPassOf (t : TurnstileState Origin) (p : PassState Entry Origin) : Type 0 where
  pub own : IsPassOf t p
  pub free : p.holds ≡ false
  pub none : p.mine ≡ []

-- the pass p after a turn in which it came to know the history, of which these entries are its own
abbrev pub after_turn : PassState Entry Origin → List Entry → List Entry
    → PassState Entry Origin
after_turn p history mine = record p { turns = p.turns - 1; seen = history; mine = mine }

-- q is the centre's pass of the same agent as p, and holds no turn
pub record KeepsPass (t : TurnstileState Origin) (p q : PassState Entry Origin) : Type 0 where
  pub own : IsPassOf t q
  pub number : q.number ≡ p.number
  pub free : q.holds ≡ false

-- q is the pass p after a turn that found this history, of which p knew a beginning
pub record Finds (t : TurnstileState Origin) (p : PassState Entry Origin) (found : List Entry)
    (q : PassState Entry Origin) : Type 0 where
  pub own : IsPassOf t q
  pub left : 0 < p.turns
  pub known : IsPrefix p.seen found
  pub floor : p.floor ≤ length found

-- a call was served in a turn that found room: q knows its entry, and then answers to requests,
-- behind the history that was found, and the caller is told the reply that q's history gives
pub record CallsInTurn (t : TurnstileState Origin) (p : PassState Entry Origin) (number : ℕ)
    (op : Op) (told : Answer) (q : PassState Entry Origin) : Type 0 where
  pub found : List Entry
  pub finds : Finds t p found q
  pub room : IsFull t.origin found → ⊥
  pub result : Outcome
  pub items : List Item
  pub gaves : List Entry
  pub answers : All IsGave gaves
  pub after : q ≡ after_turn p
      (found ++ Called (call_of p.number number) op result items ∷ gaves)
      (p.mine ++ Called (call_of p.number number) op result items ∷ [])
  pub answer : IsAnswer (reply_in q.seen (call_of p.number number)) told

-- what became of an earlier call was told in a turn that found room, and an entry of that appended
pub record PollsInTurn (t : TurnstileState Origin) (p : PassState Entry Origin) (number asked : ℕ)
    (told : Poll) (q : PassState Entry Origin) : Type 0 where
  pub found : List Entry
  pub finds : Finds t p found q
  pub called : HasCall (call_of p.number asked) found
  pub room : IsFull t.origin found → ⊥
  pub reply : Option Reply
  pub is : reply ≡ reply_in found (call_of p.number asked)
  pub after : q ≡ after_turn p
      (found ++ Looked (call_of p.number number) asked reply ∷ [])
      (p.mine ++ Looked (call_of p.number number) asked reply ∷ [])
  pub poll : IsPoll reply told

-- a turn was taken that added nothing
pub record Sees (t : TurnstileState Origin) (p q : PassState Entry Origin) : Type 0 where
  pub finds : Finds t p q.seen q
  pub after : q ≡ after_turn p q.seen p.mine

-- the turn found the centre full, with this weight and so many requests that wait
pub record SeesFull (t : TurnstileState Origin) (p : PassState Entry Origin) (weight pending : ℕ)
    (q : PassState Entry Origin) : Type 0 where
  pub sees : Sees t p q
  pub full : IsFull t.origin q.seen
  pub weight_is : weight ≡ entries.weight q.seen
  pub pending_is : pending ≡ pending_after t.origin q.seen

-- the turn found that the centre isn't full, and added nothing all the same
pub record SeesRoom (t : TurnstileState Origin) (p q : PassState Entry Origin) : Type 0 where
  pub sees : Sees t p q
  pub room : IsFull t.origin q.seen → ⊥

-- no turn was left, and none was taken
abbrev pub IsSpent : PassState Entry Origin → PassState Entry Origin → Type 0
IsSpent p q = (p.turns ≡ 0) × (q ≡ p)

-- why a call was refused: no turn was left, or the turn found the centre full, or memory ran out in
-- a turn that found room
abbrev pub IsCallRefused : TurnstileState Origin → PassState Entry Origin → CallFault
    → PassState Entry Origin → Type 0
IsCallRefused t p call.TurnsSpent q = IsSpent p q
IsCallRefused t p (call.Full weight pending) q = SeesFull t p weight pending q
IsCallRefused t p call.NoMemory q = SeesRoom t p q

-- why a poll was refused: no turn was left, or the turn found that the agent has made no such call,
-- or that it has and the centre is full, or memory ran out in a turn that found neither
abbrev pub IsSharedPollRefused : TurnstileState Origin → PassState Entry Origin → ℕ
    → SharedPollFault → PassState Entry Origin → Type 0
IsSharedPollRefused t p asked shared.TurnsSpent q = IsSpent p q
IsSharedPollRefused t p asked shared.Stranger q =
    Sees t p q × (HasCall (call_of p.number asked) q.seen → ⊥)
IsSharedPollRefused t p asked (shared.Full weight pending) q =
    SeesFull t p weight pending q × HasCall (call_of p.number asked) q.seen
IsSharedPollRefused t p asked shared.NoMemory q =
    SeesRoom t p q × ((HasCall (call_of p.number asked) q.seen → ⊥) → ⊥)

-- why a look was refused: no turn was left, or memory ran out in the turn
abbrev pub IsLookRefused : TurnstileState Origin → PassState Entry Origin → LookFault
    → PassState Entry Origin → Type 0
IsLookRefused t p look.TurnsSpent q = IsSpent p q
IsLookRefused t p look.NoMemory q = Sees t p q

-- why a wait ended without a reply: no turn is left, and if one was, q knows of no reply to the
-- call; or memory ran out in a turn
abbrev pub IsWaitRefused : PassState Entry Origin → ℕ → LookFault → PassState Entry Origin
    → Type 0
IsWaitRefused p number look.TurnsSpent q =
    (q.turns ≡ 0) × (p.turns ≡ 0 → q ≡ p)
    × (0 < p.turns → reply_in q.seen (call_of p.number number) ≡ None)
IsWaitRefused p number look.NoMemory q = 0 < p.turns

-- q is the pass p once more entries stand than it knows
pub record Rests (t : TurnstileState Origin) (p q : PassState Entry Origin) : Type 0 where
  pub floor : length p.seen < q.floor
  pub after : q ≡ record p { floor = q.floor }

-- some turns were taken that added nothing, at most one more than the entries that are newly seen
pub record WaitsInTurns (t : TurnstileState Origin) (p q : PassState Entry Origin) : Type 0 where
  pub own : IsPassOf t q
  pub fell : q.turns ≤ p.turns
  pub turns : p.turns + length p.seen ≤ q.turns + length q.seen + 1
  pub known : IsPrefix p.seen q.seen
  pub after : q ≡ record p { turns = q.turns; seen = q.seen; floor = q.floor }

-- the pass holds a turn, and this is the core that it checked out
pub record IsPausedOf (t : TurnstileState Origin) (core : Centre) (q : PassState Entry Origin)
    : Type 0 where
  pub own : IsPassOf t q
  pub holds : q.holds ≡ true
  pub origin : core.origin ≡ t.origin
  pub history : core.history ≡ q.seen

-- the pass p took a turn and holds it
pub record IsPaused (t : TurnstileState Origin) (p : PassState Entry Origin) (core : Centre)
    (q : PassState Entry Origin) : Type 0 where
  pub paused : IsPausedOf t core q
  pub left : 0 < p.turns
  pub known : IsPrefix p.seen q.seen
  pub floor : p.floor ≤ length q.seen
  pub after : q ≡ record p { turns = p.turns - 1; seen = q.seen; holds = true }
