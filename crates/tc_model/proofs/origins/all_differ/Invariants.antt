use Rattle.std.proofs.Common.{◌≢◌, AllPairs, take}
use Rattle.tc_model.proofs.origins.all_differ.Given as goal

abbrev pub invariant-loop-place : goal.invariant-loop-place
invariant-loop-place l = AllPairs ◌≢◌ (take l.place l.names)
