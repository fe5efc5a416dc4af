use Rattle.std.proofs.Common.{◌≡◌, map, take}
use Rattle.tucson.specs.Texts.{core_count}
use Rattle.tucson.proofs.loading.last_counts.Given as goal

-- the cores so far have their counts
abbrev pub invariant-loop-core : goal.invariant-loop-core
invariant-loop-core l = l.counts.items ≡ map core_count (take l.core-index l.cores)
