use Rattle.std.proofs.Common.{◌≡◌, List}
use Rattle.tc_read.specs.Frames.{frames_of, items_of, tops, under}
use Rattle.tc_read.specs.Items.{parts_view}
use Rattle.tc_read.specs.Kept.{Kept, parts}
use Rattle.tc_read.specs.Machine.{turned}
use Rattle.tc_read.proofs.compound.several.Given as goal

abbrev pub invariant-loop-left : goal.invariant-loop-left
invariant-loop-left l =
    ((last : List Kept) → parts_view l.initial.parts ≡ parts last →
    (ks : List Kept)
    × (turned (tops l.fn.count (items_of l.initial.stack)) last ≡ turned (tops l.left (items_of l.stack)) ks)
    × (parts_view l.parts ≡ parts ks))
    × (under l.fn.count (items_of l.initial.stack) ≡ under l.left (items_of l.stack))
    × (frames_of l.stack ≡ frames_of l.initial.stack)

abbrev pub decreases-loop-left : goal.decreases-loop-left
decreases-loop-left l = l.left
