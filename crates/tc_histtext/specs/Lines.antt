-- Which entries have lines of their own.
use Rattle.std.specs.Prelude.{◌≡◌, ◌<◌, ℕ, List, All, length}
use Rattle.tc_model.specs.Calls.{id_of}
use Rattle.tc_model.specs.Entries.{IsNumbered, IsOutcomeWellFormed}
use Rattle.tc_model.specs.Typed.{IsTyped}
use Rattle.tc_model.specs.declared.entries.Entry.{Entry}
use Rattle.tc_model.specs.declared.entries.Entry.TheVariants.{Called, Gave, Looked}

-- no tuple had been chosen where the reactions to a request went over the budget, and the places
-- that items name are counted from 1
abbrev pub HasForm : Entry → Type 0
HasForm (Called id op result items) = IsOutcomeWellFormed result × All IsNumbered items
HasForm (Gave id result items) = IsOutcomeWellFormed result × All IsNumbered items
HasForm (Looked id asked told) = Unit {0}

-- the entry has lines of its own: it is what the program's types promise, of one of these agents
pub record HasLines (agents : List (List ℕ)) (e : Entry) : Type 0 where
  pub typed : IsTyped e
  pub agent : (id_of e).agent < length agents
  pub form : HasForm e

-- one history for each centre, of entries that have lines
pub record HaveLines (centres agents : List (List ℕ)) (histories : List (List Entry)) : Type 0 where
  pub whole : length histories ≡ length centres
  pub lines : All (All (HasLines agents)) histories
