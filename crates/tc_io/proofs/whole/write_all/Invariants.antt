use Rattle.std.proofs.Common.{◌≡◌, ◌≤◌, ◌-◌, length, take}
use Rattle.tc_io.specs.Sinks.{appended}
use Rattle.tc_io.proofs.whole.write_all.Given as goal

-- the bytes so far are taken, without a fault
abbrev pub invariant-loop-at : goal.invariant-loop-at
invariant-loop-at g l = record {
  within : l.at ≤ length l.bytes;
  taken : g.K.Sink.taken l.sink ≡ appended (g.K.Sink.taken l.initial.sink) (take l.at l.bytes);
  faults : g.K.Sink.write_faults l.sink ≡ g.K.Sink.write_faults l.initial.sink;
  sure : g.K.Sink.sure l.sink ≡ g.K.Sink.sure l.initial.sink;
  other : g.K.Sink.other l.sink ≡ g.K.Sink.other l.initial.sink;
}

abbrev pub decreases-loop-at : goal.decreases-loop-at
decreases-loop-at g l = length l.bytes - l.at
