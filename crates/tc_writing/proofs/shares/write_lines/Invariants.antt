use Rattle.std.proofs.Common.{List, [], ℕ, Ok}
use Rattle.tc_io.specs.Flow.{HandsOn, flow}
use Rattle.tc_writing.specs.Lines.{texts}
use Rattle.tc_writing.proofs.LineByLine.{begun}
use Rattle.tc_writing.proofs.shares.write_lines.Given as goal

-- the first lines were handed on
abbrev pub invariant-loop-place : goal.invariant-loop-place
invariant-loop-place g l =
    HandsOn (begun [] (λ (t : List ℕ). t) (texts l.lines) l.place)
    (flow g.K.Sink.taken g.K.Sink.write_faults g.K.Sink.sure l.fn.sink l.fn.kept.items)
    (flow g.K.Sink.taken g.K.Sink.write_faults g.K.Sink.sure l.sink l.kept.items) (Ok tt)
