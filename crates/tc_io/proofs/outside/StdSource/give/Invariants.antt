use Rattle.std.proofs.Common.{◌≡◌}
use Rattle.std.specs.Io.KnownBytes.{Keeps}
use Rattle.tc_io.proofs.outside.StdSource.give.Given as goal

-- no byte was read so far
abbrev pub invariant-loop : goal.invariant-loop
invariant-loop g l =
    Keeps (g.R.Read.remaining l.fn.self.reader) (g.R.Read.remaining l.self.reader)
    × (l.self.faults ≡ l.fn.self.faults)
