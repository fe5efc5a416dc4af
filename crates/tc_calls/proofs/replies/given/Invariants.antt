use Rattle.std.proofs.Common.{◌≡◌, drop}
use Rattle.tc_model.specs.Replies.{outcome_given}
use Rattle.tc_calls.proofs.replies.given.Given as goal

abbrev pub invariant-loop-entry : goal.invariant-loop-entry
invariant-loop-entry l = outcome_given l.entries l.id ≡ outcome_given (drop l.entry-index l.entries) l.id
