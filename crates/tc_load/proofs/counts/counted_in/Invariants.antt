use Rattle.std.proofs.Common.{◌≡◌, take, []}
use Rattle.std.specs.List.{filter_map}
use Rattle.tc_load.specs.Counts.{count_of}
use Rattle.tc_load.proofs.counts.counted_in.Given as goal

-- no tuple so far is a count
abbrev pub invariant-loop-tuple : goal.invariant-loop-tuple
invariant-loop-tuple l = filter_map count_of (take l.tuple-index l.tuples) ≡ []
