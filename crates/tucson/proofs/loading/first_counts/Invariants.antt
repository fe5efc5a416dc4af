use Rattle.std.proofs.Common.{◌≡◌, take}
use Rattle.tucson.proofs.Counted.{first_of}
use Rattle.tucson.proofs.loading.first_counts.Given as goal

-- the centres so far have their counts
abbrev pub invariant-loop-centre : goal.invariant-loop-centre
invariant-loop-centre l = l.counts.items ≡ first_of (take l.centre-index l.centres)
