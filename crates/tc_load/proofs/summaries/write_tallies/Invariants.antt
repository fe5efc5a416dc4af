use Rattle.std.proofs.Common.{◌≡◌, ◌++◌, take}
use Rattle.std.specs.List.{enumerate_from, flat_map}
use Rattle.tc_load.specs.Summaries.{tally_of}
use Rattle.tc_load.proofs.summaries.write_tallies.Given as goal

-- the lines so far are written
abbrev pub invariant-loop-k : goal.invariant-loop-k
invariant-loop-k l = l.into.items ≡ l.fn.into.items ++ flat_map (tally_of l.words) (enumerate_from 0 (take l.k l.counted))
