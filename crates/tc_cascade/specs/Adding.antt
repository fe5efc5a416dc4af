-- Adding what events trigger to what was triggered before.
use Rattle.std.specs.Prelude.{◌≡◌, ◌-◌, ℕ, List, ◌++◌, length, take}
use Rattle.tc_model.specs.Events.{Occurrence}
use Rattle.tc_model.specs.Reactions.{Rule}
use Rattle.tc_model.specs.Triggers.{Member, Triggers, IsClause}

-- there is a clause of this number
abbrev pub Stands : List Rule → ℕ → Type 0
Stands clauses number = (r : Rule) × IsClause clauses number r

-- what the events trigger stands behind what was triggered before, as far as there is room
pub record Adds (clauses : List Rule) (es : List Occurrence) (room : ℕ)
    (old new : List Member) : Type 0 where
  pub more : List Member
  pub triggers : Triggers clauses es more
  pub added : new ≡ old ++ take (room - length old) more
