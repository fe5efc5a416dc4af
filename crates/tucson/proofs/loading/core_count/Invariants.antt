use Rattle.std.proofs.Common.{◌≡◌, take, []}
use Rattle.std.specs.List.{filter_map}
use Rattle.tc_centre.specs.Centre.{state_of}
use Rattle.tc_load.specs.Counts.{count_of}
use Rattle.tucson.proofs.loading.core_count.Given as goal

-- no tuple so far is a count
abbrev pub invariant-loop-place : goal.invariant-loop-place
invariant-loop-place l = filter_map count_of (take l.place (state_of l.core).tuples) ≡ []
