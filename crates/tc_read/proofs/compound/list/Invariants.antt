use Rattle.std.proofs.Common.{◌≡◌}
use Rattle.tc_read.specs.Frames.{frames_of, items_of, tops, under}
use Rattle.tc_read.specs.Items.{kept_item}
use Rattle.tc_read.specs.Kept.{kept}
use Rattle.tc_read.specs.Machine.{cells}
use Rattle.tc_read.proofs.compound.list.Given as goal

abbrev pub invariant-loop-left : goal.invariant-loop-left
invariant-loop-left l =
    (cells kept (tops l.fn.count (items_of l.initial.stack)) (kept_item l.fn.tail) ≡ cells kept (tops l.left (items_of l.stack)) (kept_item l.whole))
    × (under l.fn.count (items_of l.initial.stack) ≡ under l.left (items_of l.stack))
    × (frames_of l.stack ≡ frames_of l.initial.stack)

abbrev pub decreases-loop-left : goal.decreases-loop-left
decreases-loop-left l = l.left
