use Rattle.std.proofs.Common.{◌≡◌, drop}
use Rattle.tc_model.specs.Replies.{outcome_in}
use Rattle.tc_calls.proofs.replies.outcome_of.Given as goal

abbrev pub invariant-loop-place : goal.invariant-loop-place
invariant-loop-place l = outcome_in l.entries l.id ≡ outcome_in (drop l.place l.entries) l.id
