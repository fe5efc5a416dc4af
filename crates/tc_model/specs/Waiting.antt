-- Who waits in a history, and for whom nothing has to wait.
use Rattle.std.specs.Prelude.{◌≡◌, false, None, List, All, AllPairs, Contains}
use Rattle.tc_model.specs.Calls.{same_id}
use Rattle.tc_model.specs.Replies.{reply_in}
use Rattle.tc_model.specs.Run.{HasCall}
use Rattle.tc_model.specs.declared.calls.CallId.{CallId}
use Rattle.tc_model.specs.declared.calls.Op.{Op}
use Rattle.tc_model.specs.declared.calls.Op.TheVariants.{Out, In, Rd, Inp, Rdp, No, Nop}
use Rattle.tc_model.specs.declared.calls.Op.TheVariants.{SetSpec, GetSpec}
use Rattle.tc_model.specs.declared.calls.Request.{Request}
use Rattle.tc_model.specs.declared.entries.Entry.{Entry}
use Rattle.tc_model.specs.declared.entries.Entry.TheVariants.{Called, Gave, Looked}

-- the operation is served at once
abbrev pub IsImmediate : Op → Type 0
IsImmediate (Out t) = Unit {0}
IsImmediate (In t) = ⊥
IsImmediate (Rd t) = ⊥
IsImmediate (Inp t) = Unit {0}
IsImmediate (Rdp t) = Unit {0}
IsImmediate (No t) = ⊥
IsImmediate (Nop t) = Unit {0}
IsImmediate (SetSpec clauses) = Unit {0}
IsImmediate GetSpec = Unit {0}

-- the entry is no call that may have to wait
abbrev pub NeverWaits : Entry → Type 0
NeverWaits (Called id op result items) = IsImmediate op
NeverWaits (Gave id result items) = Unit {0}
NeverWaits (Looked id asked reply) = Unit {0}

-- the entry answers no request that waited
abbrev pub GivesNothing : Entry → Type 0
GivesNothing (Called id op result items) = Unit {0}
GivesNothing (Gave id result items) = ⊥
GivesNothing (Looked id asked reply) = Unit {0}

-- a request of this call is among the requests
pub record HasRequest (id : CallId) (requests : List Request) : Type 0 where
  pub request : Request
  pub stands : Contains requests request
  pub of : request.id ≡ id

-- the requests are the calls of the history that have no reply, each once
pub record AreWaiting (history : List Entry) (requests : List Request) : Type 0 where
  pub called : All (λ r. HasCall r.id history) requests
  pub unanswered : All (λ r. reply_in history r.id ≡ None) requests
  pub once : AllPairs (λ q r. same_id q.id r.id ≡ false) requests
  pub all : (id : CallId) → HasCall id history → reply_in history id ≡ None
      → HasRequest id requests
