use Rattle.std.proofs.Common.{length}
use Rattle.tc_io.specs.Flow.{flow}
use Rattle.tc_writing.specs.Lines.{AreNamed, texts}
use Rattle.tc_writing.proofs.Begun.{Begun}
use Rattle.tc_writing.proofs.waves.write_by.Given as goal

-- the lines before the rest were handed on
abbrev pub invariant-loop-rest : goal.invariant-loop-rest
invariant-loop-rest g l =
    AreNamed l.rest
    × Begun (texts l.lines) (texts l.rest)
    (flow g.K.Sink.taken g.K.Sink.write_faults g.K.Sink.sure l.fn.sink l.fn.kept.items)
    (flow g.K.Sink.taken g.K.Sink.write_faults g.K.Sink.sure l.sink l.kept.items)

abbrev pub decreases-loop-rest : goal.decreases-loop-rest
decreases-loop-rest g l = length (texts l.rest)
