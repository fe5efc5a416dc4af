-- What entries weigh, and which are well formed.
use Rattle.std.specs.Prelude.{ℕ, ◌+◌, ◌*◌, ◌<◌, ◌≤◌, Some, None, List, All}
use Rattle.std.specs.Prelude.{length, sum_by}
use Rattle.tc_model.specs.State.{Origin, opening, after_history}
use Rattle.tc_model.specs.declared.limits.TheConstants.{MOST_WEIGHT}
use Rattle.tc_model.specs.declared.events.Phase.TheVariants.{Pre, Post}
use Rattle.tc_model.specs.declared.items.Item.{Item}
use Rattle.tc_model.specs.declared.items.Item.TheVariants.{Fired, Failed}
use Rattle.tc_model.specs.declared.outcomes.Outcome.{Outcome}
use Rattle.tc_model.specs.declared.outcomes.Outcome.TheVariants as outcome
use Rattle.tc_model.specs.declared.entries.Entry.{Entry}
use Rattle.tc_model.specs.declared.entries.Entry.TheVariants.{Called, Gave, Looked}

-- an entry weighs 1 and its items
abbrev pub weight_of : Entry → ℕ
weight_of (Called id op outcome items) = 1 + length items
weight_of (Gave id outcome items) = 1 + length items
weight_of (Looked id asked reply) = 1

-- what the entries of a history weigh together
abbrev pub weight : List Entry → ℕ
weight history = sum_by weight_of history

-- how many requests wait after a history
abbrev pub pending_after : Origin → List Entry → ℕ
pending_after origin history = length (after_history (opening origin) history).pending

-- another call, with all the answers that it may lead to, could make the history too heavy
abbrev pub IsFull : Origin → List Entry → Type 0
IsFull origin history =
    MOST_WEIGHT < weight history + (pending_after origin history + 2) * (origin.budget + 1)

-- the places that an item names are counted from 1
abbrev pub IsNumbered : Item → Type 0
IsNumbered (Fired pick clause effects) = (1 ≤ pick) × (1 ≤ clause)
IsNumbered (Failed pick clause goal effects) = (1 ≤ pick) × (1 ≤ clause) × (1 ≤ goal)

-- the reactions to a request have no chosen tuple yet
abbrev pub IsOutcomeWellFormed : Outcome → Type 0
IsOutcomeWellFormed (outcome.Over Pre (Some tuple)) = ⊥
IsOutcomeWellFormed (outcome.Over Pre None) = Unit {0}
IsOutcomeWellFormed (outcome.Over Post tuple) = Unit {0}
IsOutcomeWellFormed outcome.Done = Unit {0}
IsOutcomeWellFormed (outcome.Took tuple) = Unit {0}
IsOutcomeWellFormed outcome.NoTuple = Unit {0}
IsOutcomeWellFormed outcome.Absent = Unit {0}
IsOutcomeWellFormed (outcome.Found tuple) = Unit {0}
IsOutcomeWellFormed outcome.Pending = Unit {0}
IsOutcomeWellFormed (outcome.Spec text) = Unit {0}

-- an answer has the tuple that was chosen for the request, or says that none matches; no other
-- outcome is one of an answer
abbrev pub IsAnswerOutcome : Outcome → Type 0
IsAnswerOutcome (outcome.Took tuple) = Unit {0}
IsAnswerOutcome outcome.Absent = Unit {0}
IsAnswerOutcome (outcome.Over Post tuple) = Unit {0}
IsAnswerOutcome (outcome.Over Pre tuple) = ⊥
IsAnswerOutcome outcome.Done = ⊥
IsAnswerOutcome outcome.NoTuple = ⊥
IsAnswerOutcome (outcome.Found tuple) = ⊥
IsAnswerOutcome outcome.Pending = ⊥
IsAnswerOutcome (outcome.Spec text) = ⊥

-- the entry is well formed
abbrev pub IsWellFormed : Entry → Type 0
IsWellFormed (Called id op result items) = IsOutcomeWellFormed result × All IsNumbered items
IsWellFormed (Gave id result items) = IsAnswerOutcome result × All IsNumbered items
IsWellFormed (Looked id asked reply) = Unit {0}
