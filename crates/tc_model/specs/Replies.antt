-- The reply that a history gives to a call.
use Rattle.std.specs.Prelude.{Option, Some, None, List, [], ◌∷◌, if◌then◌else◌}
use Rattle.tc_model.specs.Calls.{same_id}
use Rattle.tc_model.specs.declared.calls.CallId.{CallId}
use Rattle.tc_model.specs.declared.outcomes.Outcome.{Outcome}
use Rattle.tc_model.specs.declared.outcomes.Outcome.TheVariants as outcome
use Rattle.tc_model.specs.declared.outcomes.Reply.{Reply}
use Rattle.tc_model.specs.declared.outcomes.Reply.TheVariants as reply
use Rattle.tc_model.specs.declared.entries.Entry.{Entry}
use Rattle.tc_model.specs.declared.entries.Entry.TheVariants.{Called, Gave, Looked}

-- the reply of an outcome; a call that is pending has none yet
abbrev pub reply_of : Outcome → Option Reply
reply_of outcome.Done = Some reply.Done
reply_of (outcome.Took tuple) = Some (reply.Tuple tuple)
reply_of outcome.NoTuple = Some reply.NoTuple
reply_of outcome.Absent = Some reply.Absent
reply_of (outcome.Found tuple) = Some (reply.Found tuple)
reply_of outcome.Pending = None
reply_of (outcome.Spec text) = Some (reply.Spec text)
reply_of (outcome.Over phase tuple) = Some (reply.OverBudget phase)

-- the outcome that a call is given first, or Pending
abbrev pub outcome_given : List Entry → CallId → Outcome
outcome_given [] id = outcome.Pending
outcome_given (Called i op result items ∷ es) id = outcome_given es id
outcome_given (Gave i result items ∷ es) id = if same_id i id then result else outcome_given es id
outcome_given (Looked i asked reply ∷ es) id = outcome_given es id

-- an outcome, or where it is Pending the one that is given
abbrev pub or_given : Outcome → Outcome → Outcome
or_given outcome.Pending given = given
or_given outcome.Done given = outcome.Done
or_given (outcome.Took tuple) given = outcome.Took tuple
or_given outcome.NoTuple given = outcome.NoTuple
or_given outcome.Absent given = outcome.Absent
or_given (outcome.Found tuple) given = outcome.Found tuple
or_given (outcome.Spec text) given = outcome.Spec text
or_given (outcome.Over phase tuple) given = outcome.Over phase tuple

-- the outcome of a call: that of its entry, or where this is Pending the one that it is given
abbrev pub outcome_in : List Entry → CallId → Outcome
outcome_in [] id = outcome.Pending
outcome_in (Called i op result items ∷ es) id =
    if same_id i id then or_given result (outcome_given es id) else outcome_in es id
outcome_in (Gave i result items ∷ es) id = outcome_in es id
outcome_in (Looked i asked reply ∷ es) id = outcome_in es id

-- the reply that a history gives to a call, if it has one
abbrev pub reply_in : List Entry → CallId → Option Reply
reply_in history id = reply_of (outcome_in history id)
