use Rattle.std.proofs.Common.{◌≡◌, ◌++◌}
use Rattle.std.specs.List.{flat_map, range_with_len}
use Rattle.tc_load.specs.Workload.{centre_text}
use Rattle.tc_load.proofs.configuration.write_centres.Given as goal

-- what the centres so far give is written
abbrev pub invariant-loop-k : goal.invariant-loop-k
invariant-loop-k l = l.into.items ≡ l.fn.into.items ++ flat_map centre_text (range_with_len 0 l.k)
