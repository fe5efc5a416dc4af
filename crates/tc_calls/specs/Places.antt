-- Where a history tells what became of each of its calls.
use Rattle.std.specs.Prelude.{◌≡◌, ℕ, ◌-◌, ◌<◌, Option, Some, None, List, []}
use Rattle.std.specs.Prelude.{length}
use Rattle.std.specs.Prelude.{map, slice_get, slice_set, slice_index_or}
use Rattle.std.specs.Prelude.{vec_len, vec_capacity}
use Rattle.std.specs.Option.{MatchOption}
use Rattle.std.specs.declared.vec.Vec.{Vec}
use Rattle.tc_model.specs.Replies.{reply_of, reply_in}
use Rattle.tc_model.specs.Run.{IsRun, HasCall}
use Rattle.tc_model.specs.State.{Origin}
use Rattle.tc_model.specs.declared.calls.CallId.{CallId}
use Rattle.tc_model.specs.declared.calls.Op.{Op}
use Rattle.tc_model.specs.declared.items.Item.{Item}
use Rattle.tc_model.specs.declared.outcomes.Outcome.{Outcome}
use Rattle.tc_model.specs.declared.outcomes.Reply.{Reply}
use Rattle.tc_model.specs.declared.entries.Entry.{Entry}
use Rattle.tc_model.specs.declared.entries.Entry.TheVariants.{Called, Gave, Looked}
use Rattle.tc_calls.specs.Calls.{place_of, Rises, SetsPlace}

-- the reply that an entry gives to its call
abbrev pub reply_from : Entry → Option Reply
reply_from (Called id op result items) = reply_of result
reply_from (Gave id result items) = reply_of result
reply_from (Looked id asked reply) = None

-- the history has the call, and gives it the reply that the entry at this place gives
pub record IsToldAt (history : List Entry) (id : CallId) (place : ℕ) : Type 0 where
  pub called : HasCall id history
  pub entry : Entry
  pub stands : slice_get history place ≡ Some entry
  pub reply : reply_from entry ≡ reply_in history id

-- the places are those of the calls of the history, and of no others
abbrev pub IsIndex : (CallId → Option ℕ) → List Entry → Type 0
IsIndex place_of history =
    (id : CallId) → MatchOption (place_of id) (HasCall id history → ⊥) (IsToldAt history id)

-- the calls of an agent with their places, as the list of all agents' has them
abbrev pub calls_in : List (List (ℕ × ℕ)) → ℕ → List (ℕ × ℕ)
calls_in lists agent = slice_index_or lists agent []

-- the place that they have for a call
abbrev pub place_in : List (List (ℕ × ℕ)) → CallId → Option ℕ
place_in lists id = place_of (calls_in lists id.agent) id.number

-- they are the places of the calls of the history, and the numbers of each agent rise
pub record ArePlaces (lists : List (List (ℕ × ℕ))) (history : List Entry) : Type 0 where
  pub index : IsIndex (place_in lists) history
  pub rise : (agent : ℕ) → Rises (calls_in lists agent)

-- a call's place is set among its agent's, and what other agents have stays
pub record Puts (id : CallId) (place : ℕ) (old new : List (List (ℕ × ℕ))) : Type 0 where
  pub inside : id.agent < length old
  pub calls : List (ℕ × ℕ)
  pub lists : new ≡ slice_set old id.agent calls
  pub sets : SetsPlace id.number place (calls_in old id.agent) calls
  pub rises : Rises calls

-- what these vectors hold
abbrev pub lists_of : {S : Type 0} → List (Vec (ℕ × ℕ) S) → List (List (ℕ × ℕ))
lists_of places = map (λ calls. calls.items) places

-- for how many more calls of an agent there is room
abbrev pub room_in : {S : Type 0} → List (Vec (ℕ × ℕ) S) → ℕ → ℕ
room_in places agent =
    slice_index_or (map (λ calls. vec_capacity calls - vec_len calls) places) agent 0

-- the call of this id stands here
pub record IsCallAt (history : List Entry) (place : ℕ) (id : CallId) : Type 0 where
  pub op : Op
  pub result : Outcome
  pub items : List Item
  pub stands : slice_get history place ≡ Some (Called id op result items)

-- the history is a run from some beginning
abbrev pub IsSomeRun : List Entry → Type 0
IsSomeRun history = (origin : Origin) × IsRun origin history

-- the entry answers a request
abbrev pub IsGave : Entry → Type 0
IsGave (Gave id result items) = Unit {0}
IsGave entry = ⊥
