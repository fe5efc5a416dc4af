use Rattle.std.proofs.Common.{take, Contains}
use Rattle.tc_policy.proofs.places.first_place.Given as goal

abbrev pub invariant-loop-place : goal.invariant-loop-place
invariant-loop-place l = Contains (take l.place l.grants) l.g → ⊥
