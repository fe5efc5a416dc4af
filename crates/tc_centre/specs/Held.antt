-- What a centre holds between two entries of its history.
use Rattle.std.specs.Prelude.{◌≡◌, ℕ, ◌+◌, ◌*◌, ◌≤◌, List, [], ◌∷◌}
use Rattle.std.specs.Prelude.{◌++◌, All, length, take}
use Rattle.tc_bag.specs.Stock.{Row, Stock, AddsYounger, begun, saved_of, tuples_of}
use Rattle.tc_model.specs.Entries.{weight}
use Rattle.tc_model.specs.Reactions.{Rule}
use Rattle.tc_model.specs.Typed.{IsTypedCall}
use Rattle.tc_model.specs.declared.limits.TheConstants.{MOST_TUPLES, MOST_WEIGHT}
use Rattle.tc_model.specs.Run.{IsFirstRun, IsNext}
use Rattle.tc_model.specs.State.{State, Origin, IsOrigin, IsQuiescent, opening, after_history}
use Rattle.tc_model.specs.declared.calls.CallId.{CallId}
use Rattle.tc_model.specs.declared.calls.Op.{Op}
use Rattle.tc_model.specs.declared.calls.Request.{Request}
use Rattle.tc_model.specs.declared.items.Item.{Item}
use Rattle.tc_model.specs.declared.outcomes.Outcome.{Outcome}
use Rattle.tc_model.specs.declared.entries.Entry.{Entry}
use Rattle.tc_model.specs.declared.entries.Entry.TheVariants.{Called}
use Rattle.tc_calls.specs.Places.{IsGave}
use Rattle.tc_centre.specs.declared.founding.Founding.{Founding}
use Rattle.tc_pending.specs.Answers.{IsKnown}
use Rattle.tc_pending.specs.declared.answering.Known.{Known}
use Rattle.tc_centre.specs.declared.holdings.Holdings.{Holdings}

-- what a centre began with
abbrev pub origin_of : Founding → Origin
origin_of f = record {
  name = f.name;
  agents = f.agents.items;
  budget = f.budget;
  tuples = f.tuples.value.items;
  clauses = f.clauses.value;
}

-- the state that these clauses, these rows and these requests are
abbrev pub held : List Rule → List Row → List Request → State
held clauses rows requests =
    record { tuples = tuples_of rows; clauses = clauses; pending = requests }

-- it began within the limits, the history is a run that has led to what is held, there is room for
-- the answers to all requests, and ages are far from their end
pub record IsHeld (origin : Origin) (history : List Entry) (clauses : List Rule)
    (rows : List Row) (next : ℕ) (requests : List Request) : Type 0 where
  pub origin_is : IsOrigin origin
  pub run : IsFirstRun origin history
  pub state : held clauses rows requests ≡ after_history (opening origin) history
  pub light : weight history + length requests * (origin.budget + 1) ≤ MOST_WEIGHT
  pub ages : next ≤ MOST_TUPLES + 65 * weight history

-- and no request can be answered
pub record IsSettled (origin : Origin) (history : List Entry) (clauses : List Rule)
    (rows : List Row) (next : ℕ) (requests : List Request) : Type 0 where
  pub holds : IsHeld origin history clauses rows next requests
  pub quiescent : IsQuiescent (held clauses rows requests)

-- answers to requests were appended
pub record Answers (old new : List Entry) : Type 0 where
  pub gaves : List Entry
  pub answers : All IsGave gaves
  pub history : new ≡ old ++ gaves

-- a call's entry was appended
pub record Calls (id : CallId) (op : Op) (old new : List Entry) : Type 0 where
  pub result : Outcome
  pub items : List Item
  pub history : new ≡ old ++ Called id op result items ∷ []

-- a call's entry, and then answers to requests
pub record Grows (id : CallId) (op : Op) (old new : List Entry) : Type 0 where
  pub result : Outcome
  pub items : List Item
  pub gaves : List Entry
  pub answers : All IsGave gaves
  pub history : new ≡ old ++ Called id op result items ∷ gaves

-- the run of what is held
abbrev pub HoldsRun : Holdings → Type 0
HoldsRun h = IsHeld (origin_of h.founding) h.history.items h.spec h.bag.now h.bag.next h.pending.now

-- and no request can be answered
abbrev pub IsAtRest : Holdings → Type 0
IsAtRest h =
    IsSettled (origin_of h.founding) h.history.items h.spec h.bag.now h.bag.next h.pending.now

-- there is room for another call, and for all answers to which it may lead
abbrev pub HasRoom : Holdings → Type 0
HasRoom h =
    weight h.history.items + (length h.pending.now + 2) * (h.founding.budget + 1) ≤ MOST_WEIGHT

-- a call of this id may be served: it is the agent's next, no request can be answered, and there is
-- room
pub record MayServe (id : CallId) (h : Holdings) : Type 0 where
  pub next : IsNext (origin_of h.founding) h.history.items id
  pub rest : IsAtRest h
  pub room : HasRoom h

-- the state that is held
abbrev pub state_held : Holdings → State
state_held h = held h.spec h.bag.now h.pending.now

-- entries were appended
pub record HasMoreEntries (old new : List Entry) : Type 0 where
  pub more : List Entry
  pub history : new ≡ old ++ more

-- what no step of a turn changes: what the centre began with, the marks, and the entries so far
pub record KeepsHeld (old new : Holdings) : Type 0 where
  pub founding : new.founding ≡ old.founding
  pub bag : new.bag.saved ≡ old.bag.saved
  pub pending : new.pending.saved ≡ old.pending.saved
  pub longer : HasMoreEntries old.history.items new.history.items

-- what no phase changes: what the centre began with, its clauses, the marks, and the history
pub record KeepsAround (old new : Holdings) : Type 0 where
  pub founding : new.founding ≡ old.founding
  pub spec : new.spec ≡ old.spec
  pub bag : new.bag.saved ≡ old.bag.saved
  pub pending : new.pending.saved ≡ old.pending.saved
  pub history : new.history.items ≡ old.history.items

-- what is new are younger rows, and requests behind the others
pub record KeepsOld (old new : Holdings) : Type 0 where
  pub rows : AddsYounger old.bag new.bag
  pub requests : take (length old.pending.now) new.pending.now ≡ old.pending.now

-- what is known where no request can be answered
abbrev pub known_of : Holdings → Known
known_of h = record { requests = length h.pending.now; age = h.bag.next }

-- it is known of these rows and requests, and of the rows at the first mark, and is about none that
-- are to come
pub record IsKnownOf
    (known : Known) (begun rows : List Row) (next : ℕ) (requests : List Request) : Type 0 where
  pub none : IsKnown known begun rows requests
  pub age : known.age ≤ next
  pub count : known.requests ≤ length requests

-- it is known of rows and requests as they are then
abbrev pub Knows : Known → Holdings → Type 0
Knows known h = IsKnownOf known (begun h.bag) h.bag.now h.bag.next h.pending.now

-- one mark is set, and the bag is as it was then
abbrev pub IsJustMarked : Stock → Type 0
IsJustMarked bag = bag.saved ≡ saved_of bag ∷ []

-- where the calls are typed, they stay so
abbrev pub KeepsTyped : Holdings → Holdings → Type 0
KeepsTyped old new = All IsTypedCall old.history.items → All IsTypedCall new.history.items

-- all is as before
pub record IsSame (old new : Holdings) : Type 0 where
  pub founding : new.founding ≡ old.founding
  pub spec : new.spec ≡ old.spec
  pub bag : new.bag ≡ old.bag
  pub pending : new.pending ≡ old.pending
  pub history : new.history.items ≡ old.history.items
