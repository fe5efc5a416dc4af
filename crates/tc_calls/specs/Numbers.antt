-- The last number of each agent.
use Rattle.std.specs.Prelude.{◌≡◌, ℕ, ◌+◌, ◌<◌, ◌≤◌, List, [], All, Contains}
use Rattle.std.specs.Prelude.{slice_index_or}
use Rattle.std.specs.Prelude.{Option, Some, None}
use Rattle.tc_model.specs.Calls.{id_of, calls_of}
use Rattle.tc_model.specs.declared.calls.CallId.{CallId}
use Rattle.tc_model.specs.declared.entries.Entry.{Entry}

-- the agent made an entry of this number, and none of a greater one
pub record IsGreatest (agent : ℕ) (history : List Entry) (number : ℕ) : Type 0 where
  pub entry : Entry
  pub stands : Contains (calls_of agent history) entry
  pub of : (id_of entry).number ≡ number
  pub most : All (λ e. (id_of e).number ≤ number) (calls_of agent history)

-- the greatest number of the agent's entries; none where it has made no entry
abbrev pub IsLast : ℕ → List Entry → Option ℕ → Type 0
IsLast agent history None = calls_of agent history ≡ []
IsLast agent history (Some number) = IsGreatest agent history number

-- the number is above the last one
abbrev pub IsAbove : Option ℕ → ℕ → Type 0
IsAbove None number = Unit {0}
IsAbove (Some last) number = last < number

-- the number that a list by agent has; none beyond its end
abbrev pub number_in : List (Option ℕ) → ℕ → Option ℕ
number_in numbers agent = slice_index_or numbers agent None

-- the list has each agent's last number
abbrev pub AreLast : List (Option ℕ) → List Entry → Type 0
AreLast numbers history = (agent : ℕ) → IsLast agent history (number_in numbers agent)

-- the number of a call behind this last one
abbrev pub number_behind : Option ℕ → ℕ
number_behind None = 1
number_behind (Some last) = last + 1

-- the agent's next call: its number is one above the agent's last, or 1
pub record IsNextCall (agent : ℕ) (history : List Entry) (id : CallId) : Type 0 where
  pub agent_is : id.agent ≡ agent
  pub last : Option ℕ
  pub greatest : IsLast agent history last
  pub number : id.number ≡ number_behind last
