use Rattle.tc_io.specs.Flow.{flow}
use Rattle.tc_writing.specs.Lines.{AreNamed, ArePrinted, texts}
use Rattle.tc_writing.proofs.Begun.{Begun}
use Rattle.tc_writing.proofs.waves.write_shares.Given as goal

-- the shares before the rest were handed on, and of those in the rest the first lines were printed
abbrev pub invariant-loop-printed : goal.invariant-loop-printed
invariant-loop-printed g l = record {
  named : AreNamed l.rest;
  printed : ArePrinted l.size (texts l.rest) l.printed-iterator.rest.items;
  begun : Begun (texts l.wave) (texts l.rest)
      (flow g.K.Sink.taken g.K.Sink.write_faults g.K.Sink.sure l.fn.sink l.fn.kept.items)
      (flow g.K.Sink.taken g.K.Sink.write_faults g.K.Sink.sure l.sink l.kept.items);
}
