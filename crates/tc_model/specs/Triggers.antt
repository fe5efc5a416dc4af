-- Which clauses an event triggers.
use Rattle.std.specs.Prelude.{◌≡◌, ◌<◌, ◌+◌, ◌↔◌, ℕ, Some, List, []}
use Rattle.std.specs.Prelude.{◌∷◌}
use Rattle.std.specs.Prelude.{◌++◌, All, AllPairs, Contains, map, slice_get}
use Rattle.tc_term.specs.Variables.{raised, var_bound}
use Rattle.tc_term.specs.Equations.{Solvable}
use Rattle.tc_model.specs.Events.{Occurrence, event_of}
use Rattle.tc_model.specs.Reactions.{Rule}
use Rattle.tc_model.specs.declared.events.Phase.TheVariants.{Pre, Post}
use Rattle.tc_model.specs.declared.events.Sign.TheVariants as sign
use Rattle.tc_model.specs.declared.items.Item.{Item}
use Rattle.tc_model.specs.declared.items.Item.TheVariants.{Fired, Failed}
use Rattle.tc_model.specs.declared.reactions.GuardTest.{GuardTest}
use Rattle.tc_model.specs.declared.reactions.GuardTest.TheVariants.{Request, Response}
use Rattle.tc_model.specs.declared.reactions.GuardTest.TheVariants.{Success, Failure}

-- the test holds of the event: it is a request or a response, it succeeded or failed
abbrev pub Holds : Occurrence → GuardTest → Type 0
Holds e Request = e.phase ≡ Pre
Holds e Response = e.phase ≡ Post
Holds e Success = e.sign ≡ sign.Success
Holds e Failure = e.sign ≡ sign.Failure

-- the reaction's operation is the event's, all tests of its guard hold, and its head can be made
-- equal to the event's term, their variables kept apart
pub record IsTriggered (r : Rule) (e : Occurrence) : Type 0 where
  pub op : r.op ≡ e.op
  pub guard : All (Holds e) r.guard
  pub solvable : Solvable (r.vars + var_bound e.term) ((r.head, raised r.vars e.term) ∷ [])

-- the clause of this number; clauses count from 1
pub record IsClause (clauses : List Rule) (number : ℕ) (r : Rule) : Type 0 where
  pub place : ℕ
  pub at : number ≡ place + 1
  pub stands : slice_get clauses place ≡ Some r

-- the numbers are, rising, those of all the clauses that the event triggers
pub record AreTriggered (clauses : List Rule) (e : Occurrence) (numbers : List ℕ) : Type 0 where
  pub rising : AllPairs ◌<◌ numbers
  pub exact : (n : ℕ) (r : Rule) → IsClause clauses n r
      → (Contains numbers n ↔ IsTriggered r e)
  pub only : (n : ℕ) → Contains numbers n → (r : Rule) × IsClause clauses n r

-- a clause that is triggered, and the event that triggered it
pub record Member : Type 0 where
  pub clause : ℕ
  pub event : Occurrence

-- these clauses, each triggered by the event
abbrev pub members : Occurrence → List ℕ → List Member
members e numbers = map (λ n. record { clause = n; event = e }) numbers

-- the members are what these events trigger, event by event
abbrev pub Triggers : List Rule → List Occurrence → List Member → Type 0
Triggers clauses [] ms = ms ≡ []
Triggers clauses (e ∷ es) ms =
    (numbers : List ℕ) × (more : List Member) × AreTriggered clauses e numbers
    × Triggers clauses es more × (ms ≡ members e numbers ++ more)

-- a reaction that has fired raises the events of its effects; one that has failed raises none
abbrev pub raises : Item → List Occurrence
raises (Fired pick clause effects) = map event_of effects
raises (Failed pick clause goal effects) = []
