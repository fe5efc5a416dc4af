-- Which of several possibilities is taken: any one that would do, or the first.
use Rattle.std.specs.Prelude.{◌≡◌, ◌≤◌, ℕ, List, Contains}
use Rattle.tc_lists.specs.Firsts.{IsFirst}

pub data Choice : Type 0 where
  AnyOne : Choice
  TheFirst : Choice

-- an element of the list that has the property may be taken
abbrev pub IsChosen : {X : Type 0} → Choice → (X → Type 0) → List X → X → Type 0
IsChosen AnyOne P xs x = Contains xs x × P x
IsChosen TheFirst P xs x = IsFirst P xs x

-- a place, counted from 1, may be picked
abbrev pub IsPick : Choice → ℕ → Type 0
IsPick AnyOne pick = 1 ≤ pick
IsPick TheFirst pick = pick ≡ 1
