-- The entries that agents made, each with its number and its place in the history.
use Rattle.std.specs.Prelude.{◌≡◌, ◌≢◌, ◌<◌, ℕ, true, List, [], All, AllPairs, Contains}
use Rattle.std.specs.Prelude.{length, map, slice_get, slice_index_or, Some}
use Rattle.std.specs.declared.vec.Vec.{Vec}
use Rattle.tc_model.specs.Calls.{calls_of, id_of, is_call_of}
use Rattle.tc_model.specs.Run.{IsRun}
use Rattle.tc_model.specs.State.{Origin}
use Rattle.tc_model.specs.declared.calls.CallId.{CallId}
use Rattle.tc_model.specs.declared.entries.Entry.{Entry}
use Rattle.tc_model.specs.declared.entries.Entry.TheVariants.{Called, Gave, Looked}
use Rattle.tc_rows.specs.declared.made.Made.{Made}

-- the history is a run of a centre with so many agents
pub record IsRunOf (agents : ℕ) (history : List Entry) : Type 0 where
  pub origin : Origin
  pub many : length origin.agents ≡ agents
  pub run : IsRun origin history

-- the agent made the entry at this place, and it has this number
pub record IsMadeAt (agent : ℕ) (history : List Entry) (made : Made) : Type 0 where
  pub entry : Entry
  pub stands : slice_get history made.place ≡ Some entry
  pub by : is_call_of agent entry ≡ true
  pub number : (id_of entry).number ≡ made.number

-- numbers and places rise
abbrev pub Rise : List Made → Type 0
Rise made = AllPairs (λ a b. (a.number < b.number) × (a.place < b.place)) made

-- they are the entries that the agent made in the history, in order
pub record AreMade (agent : ℕ) (history : List Entry) (made : List Made) : Type 0 where
  pub each : All (IsMadeAt agent history) made
  pub all : (place : ℕ) (e : Entry) → slice_get history place ≡ Some e
      → is_call_of agent e ≡ true
      → Contains made (record { number = (id_of e).number; place = place })
  pub rise : Rise made

-- what the vectors of all agents hold
abbrev pub lists_of : {S : Type 0} → List (Vec Made S) → List (List Made)
lists_of makers = map (λ made. made.items) makers

-- what the list of all agents' entries has for one
abbrev pub made_by : List (List Made) → ℕ → List Made
made_by lists agent = slice_index_or lists agent []

-- for each agent it has the entries that the agent made
abbrev pub AreAllMade : List (List Made) → List Entry → Type 0
AreAllMade lists history = (agent : ℕ) → AreMade agent history (made_by lists agent)

-- the agent has made no entry of this number in the history
abbrev pub HasNoEntry : ℕ → ℕ → List Entry → Type 0
HasNoEntry agent number history = All (λ e. (id_of e).number ≢ number) (calls_of agent history)

-- the entry stands in the history, the agent made it, and it has this number
pub record IsEntryOf (agent number : ℕ) (history : List Entry) (e : Entry) : Type 0 where
  pub stands : Contains history e
  pub by : is_call_of agent e ≡ true
  pub number_is : (id_of e).number ≡ number

-- the number of what an agent made is above those of the entries that it made before
abbrev pub RisesAbove : List Entry → Entry → Type 0
RisesAbove history e = (agent : ℕ) → is_call_of agent e ≡ true
    → All (λ d. (id_of d).number < (id_of e).number) (calls_of agent history)

-- who made an entry, and with which number
abbrev pub IsMaker : Entry → CallId → Type 0
IsMaker (Called i op result items) id = i ≡ id
IsMaker (Gave i result items) id = ⊥
IsMaker (Looked i asked reply) id = i ≡ id
