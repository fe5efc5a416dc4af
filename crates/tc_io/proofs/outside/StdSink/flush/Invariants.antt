use Rattle.std.proofs.Common.{◌≡◌, true}
use Rattle.std.specs.Io.KnownBytes.{Keeps}
use Rattle.tc_io.proofs.outside.StdSink.flush.Given as goal

-- no byte was written so far
abbrev pub invariant-loop : goal.invariant-loop
invariant-loop g l =
    Keeps (g.W.Write.contents l.fn.self.writer) (g.W.Write.contents l.self.writer)
    × (l.self.faults ≡ l.fn.self.faults) × (l.self.unflushed ≡ true)
