-- Where a centre was at rest and too full for another call.
use Rattle.std.specs.Prelude.{◌≡◌, ◌+◌, ◌*◌, ◌-◌, ◌<◌, ◌≤◌, ◌&&◌, ◌⊎◌, ℕ, Bool, true, false, List, All}
use Rattle.std.specs.Prelude.{[], ◌∷◌, ◌++◌, AllPairs, Contains, if◌then◌else◌, length, take}
use Rattle.tc_model.specs.Entries.{IsFull, pending_after, weight}
use Rattle.tc_model.specs.State.{IsQuiescent, Origin, after_history, opening}
use Rattle.tc_model.specs.declared.calls.Op.{Op}
use Rattle.tc_model.specs.declared.calls.Op.TheVariants.{Out, In, Rd, Inp, Rdp, No, Nop}
use Rattle.tc_model.specs.declared.calls.Op.TheVariants.{SetSpec, GetSpec}
use Rattle.tc_model.specs.declared.entries.Entry.{Entry}
use Rattle.tc_model.specs.declared.entries.Entry.TheVariants.{Called, Gave, Looked}
use Rattle.tc_model.specs.declared.limits.TheConstants.{MOST_WEIGHT}
use Rattle.tc_model.specs.declared.outcomes.Outcome.{Outcome}
use Rattle.tc_model.specs.declared.outcomes.Outcome.TheVariants as outcome
use Rattle.tc_replay.specs.Bad.{IsQuietRun}
use Rattle.tc_rows.specs.declared.fulls.FullPoint.{FullPoint}
use Rattle.tc_rows.specs.declared.fulls.Load.{Load}

-- the history weighs so much, and so many requests wait behind it
pub record IsLoadOf (origin : Origin) (history : List Entry) (load : Load) : Type 0 where
  pub weighs : load.weight ≡ weight history
  pub waits : load.pending ≡ pending_after origin history

-- behind the first entries no request can be answered, and the centre is too full for a call
pub record IsFullPoint (origin : Origin) (history : List Entry) (place : ℕ) : Type 0 where
  pub within : place ≤ length history
  pub quiescent : IsQuiescent (after_history (opening origin) (take place history))
  pub full : IsFull origin (take place history)

-- a point tells such a place, with the load there
pub record IsPoint (origin : Origin) (history : List Entry) (p : FullPoint) : Type 0 where
  pub is : IsFullPoint origin history p.place
  pub load : IsLoadOf origin (take p.place history) p.load

-- the list has a point at the place
pub record HasPoint (points : List FullPoint) (place : ℕ) : Type 0 where
  pub point : FullPoint
  pub stands : Contains points point
  pub there : point.place ≡ place

-- places and weights rise
abbrev pub Rise : List FullPoint → Type 0
Rise points = AllPairs (λ p q. (p.place < q.place) × (p.load.weight < q.load.weight)) points

-- the points are those before this place
pub record ArePointsBelow (origin : Origin) (history : List Entry) (end : ℕ)
    (points : List FullPoint) : Type 0 where
  pub each : All (IsPoint origin history) points
  pub below : All (λ p. p.place < end) points
  pub all : (place : ℕ) → place < end → IsFullPoint origin history place → HasPoint points place
  pub rise : Rise points

-- the points are all of the history's
pub record ArePoints (origin : Origin) (history : List Entry) (points : List FullPoint)
    : Type 0 where
  pub each : All (IsPoint origin history) points
  pub all : (place : ℕ) → IsFullPoint origin history place → HasPoint points place
  pub rise : Rise points

-- the history is a run to a quiet state of a centre with this budget
pub record IsQuietWith (origin : Origin) (budget : ℕ) (history : List Entry) : Type 0 where
  pub run : IsQuietRun origin history
  pub budget_is : origin.budget ≡ budget

-- another call could make a history with this load too heavy
abbrev pub IsTooFull : Load → ℕ → Type 0
IsTooFull load budget = MOST_WEIGHT < load.weight + (load.pending + 2) * (budget + 1)

-- where the centre is at rest and too full, the place is noted behind the others
abbrev pub Notes : Bool → ℕ → Load → ℕ → List FullPoint → List FullPoint → Type 0
Notes quiet budget load place old new =
    ((quiet ≡ true) × IsTooFull load budget
    × (new ≡ old ++ record { place = place; load = load } ∷ []))
    ⊎ ((quiet ≡ true → IsTooFull load budget → ⊥) × (new ≡ old))

-- whether the operation may have to wait
abbrev pub may_wait : Op → Bool
may_wait (Out t) = false
may_wait (In t) = true
may_wait (Rd t) = true
may_wait (Inp t) = false
may_wait (Rdp t) = false
may_wait (No t) = true
may_wait (Nop t) = false
may_wait (SetSpec clauses) = false
may_wait GetSpec = false

-- whether the reactions stayed within the budget
abbrev pub is_within : Outcome → Bool
is_within (outcome.Over phase tuple) = false
is_within outcome.Done = true
is_within (outcome.Took u) = true
is_within outcome.NoTuple = true
is_within outcome.Absent = true
is_within (outcome.Found u) = true
is_within outcome.Pending = true
is_within (outcome.Spec text) = true

-- whether a call leaves a request
abbrev pub leaves_request : Op → Outcome → Bool
leaves_request op result = is_within result && may_wait op

-- whether the entry is no answer
abbrev pub is_no_answer : Entry → Bool
is_no_answer (Called id op result items) = true
is_no_answer (Gave id result items) = false
is_no_answer (Looked id asked reply) = true

-- how many requests wait behind the entry, of so many before it
abbrev pub pending_behind : Entry → ℕ → ℕ
pending_behind (Called id op result items) n = n + (if leaves_request op result then 1 else 0)
pending_behind (Gave id result items) n = n - 1
pending_behind (Looked id asked reply) n = n
