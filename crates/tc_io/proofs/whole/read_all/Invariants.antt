use Rattle.std.proofs.Common.{◌≡◌, ◌+◌, ◌≤◌, ◌-◌, length}
use Rattle.tc_io.specs.Sources.{ReadsBytes}
use Rattle.tc_io.proofs.whole.read_all.Given as goal

-- the bytes so far were read, without a fault, and one more than the limit at most
abbrev pub invariant-loop-buffer : goal.invariant-loop-buffer
invariant-loop-buffer g l = record {
  within : length l.bytes.items ≤ l.limit + 1;
  read : ReadsBytes (g.S.Source.left l.initial.source) (g.S.Source.left l.source) l.bytes.items;
  faults : g.S.Source.read_faults l.source ≡ g.S.Source.read_faults l.initial.source;
  sure : g.S.Source.sure l.source ≡ g.S.Source.sure l.initial.source;
  other : g.S.Source.other l.source ≡ g.S.Source.other l.initial.source;
}

abbrev pub decreases-loop-buffer : goal.decreases-loop-buffer
decreases-loop-buffer g l = l.limit + 1 - length l.bytes.items
