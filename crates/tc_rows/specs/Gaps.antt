-- Where an entry that an agent hasn't made could stand.
use Rattle.std.specs.Prelude.{◌≡◌, ◌+◌, ◌<◌, ◌≤◌, ℕ, List, All, Contains, length}
use Rattle.std.specs.Prelude.{slice_get, take, drop, Some}
use Rattle.tc_model.specs.Calls.{calls_of, id_of}
use Rattle.tc_model.specs.State.{Origin}
use Rattle.tc_model.specs.declared.calls.CallId.{CallId}
use Rattle.tc_model.specs.declared.entries.Entry.{Entry}
use Rattle.tc_desk.specs.Served.{WasFull}
use Rattle.tc_rows.specs.declared.fulls.FullPoint.{FullPoint}
use Rattle.tc_rows.specs.declared.fulls.Load.{Load}
use Rattle.tc_rows.specs.declared.made.Made.{Made}

-- the agent's entries before the place have lesser numbers, and those from it on greater ones
pub record IsBetween (agent number : ℕ) (history : List Entry) (place : ℕ) : Type 0 where
  pub before : All (λ e. (id_of e).number < number) (calls_of agent (take place history))
  pub behind : All (λ e. number < (id_of e).number) (calls_of agent (drop place history))

-- the place behind the last of the first entries that the agent made
pub record IsBehind (made : List Made) (first place : ℕ) : Type 0 where
  pub none : first ≡ 0 → place ≡ 0
  pub some : (last : ℕ) (m : Made) → last + 1 ≡ first → slice_get made last ≡ Some m
      → place ≡ m.place + 1

-- the place of the next entry that it made, or the end where it made none
pub record IsNextPlace (made : List Made) (next end place : ℕ) : Type 0 where
  pub some : (m : Made) → slice_get made next ≡ Some m → place ≡ m.place
  pub none : length made ≤ next → place ≡ end

-- a point stands between these places
pub record HasPointWithin (points : List FullPoint) (from to : ℕ) : Type 0 where
  pub point : FullPoint
  pub stands : Contains points point
  pub low : from ≤ point.place
  pub high : point.place ≤ to

-- the point has this load, and stands between these places
pub record IsLoadedWithin (point : FullPoint) (from to : ℕ) (load : Load) : Type 0 where
  pub weight : point.load.weight ≡ load.weight
  pub pending : point.load.pending ≡ load.pending
  pub low : from ≤ point.place
  pub high : point.place ≤ to

-- one of the points does so
pub record HasLoadWithin (points : List FullPoint) (from to : ℕ) (load : Load) : Type 0 where
  pub point : FullPoint
  pub stands : Contains points point
  pub is : IsLoadedWithin point from to load

-- the centre was full when the agent came to the ask of this number, with whatever load
abbrev pub WasFullSomehow : Origin → List Entry → CallId → Type 0
WasFullSomehow origin history id =
    (heavy : ℕ) × (waiting : ℕ) × WasFull origin history id heavy waiting
