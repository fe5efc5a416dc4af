-- What a history has led to, and what is known of it.
use Rattle.std.specs.Prelude.{◌≡◌, ℕ, ◌≤◌, [], ◌∷◌, List, length, slice_get, Some}
use Rattle.tc_bag.specs.Stock.{Saved, Stock, begun, saved_of, tuples_of}
use Rattle.tc_model.specs.State.{State, IsQuiescent}
use Rattle.tc_model.specs.declared.calls.CallId.{CallId}
use Rattle.tc_model.specs.declared.calls.Request.{Request}
use Rattle.tc_pending.specs.Answers.{IsKnown}
use Rattle.tc_audit.specs.declared.reached.Reached.{Reached}

-- the state that was reached
abbrev pub state_of : Reached → State
state_of r = record { tuples = tuples_of r.bag.now; clauses = r.spec; pending = r.pending.now }

-- the bag has one mark
pub record HasOneMark (bag : Stock) : Type 0 where
  pub mark : Saved
  pub only : bag.saved ≡ mark ∷ []

-- what is known holds of the tuples since the mark and of the requests, and is about none that are
-- to come
pub record IsSound (r : Reached) : Type 0 where
  pub mark : HasOneMark r.bag
  pub known : IsKnown r.known (begun r.bag) r.bag.now r.pending.now
  pub age : r.known.age ≤ r.bag.next
  pub count : r.known.requests ≤ length r.pending.now

-- no request can be answered, the mark was set here, and all that is there is known
pub record IsRested (r : Reached) : Type 0 where
  pub quiescent : IsQuiescent (state_of r)
  pub marked : r.bag.saved ≡ saved_of r.bag ∷ []
  pub age : r.known.age ≡ r.bag.next
  pub count : r.known.requests ≡ length r.pending.now

-- a request of this call stands here
pub record IsRequestAt (requests : List Request) (id : CallId) (place : ℕ) : Type 0 where
  pub request : Request
  pub stands : slice_get requests place ≡ Some request
  pub of : request.id ≡ id
