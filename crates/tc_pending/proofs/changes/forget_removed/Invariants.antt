use Rattle.std.proofs.Common.{◌≡◌, length, vec_capacity}
use Rattle.tc_pending.specs.Filed.{KeepsAll}
use Rattle.tc_pending.proofs.changes.forget_removed.Given as goal

abbrev pub invariant-loop-change : goal.invariant-loop-change
invariant-loop-change l = record {
  kept : KeepsAll l.initial.index l.index l.serials;
  room : vec_capacity l.changes ≡ vec_capacity l.initial.changes;
}

abbrev pub decreases-loop-change : goal.decreases-loop-change
decreases-loop-change l = length l.changes.items
