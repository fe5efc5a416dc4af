use Rattle.std.proofs.Common.{map, subst}
use Rattle.tc_read.specs.Frames.{items_of, opened_below, top}
use Rattle.tc_read.specs.Kept.{kept}
use Rattle.tc_read.specs.Machine.{Holds}
use Rattle.tc_read.specs.Settled.{further, none}
use Rattle.tc_read.specs.Views.{token_view}
use Rattle.tc_read.proofs.Steps.{IsShorter, go_on_shorter, left_over}
use Rattle.tc_read.proofs.parse.go_on_all.Goals as goal

pub loop-now-init : goal.loop-now-init
loop-now-init c = none

pub loop-now-smaller : goal.loop-now-smaller
loop-now-smaller c =
    let stack = c.loop-now.stack in
    let last = top (items_of stack) in
    let ts = map token_view c.loop-now.now.rest.now in
    rw c.in-Holds.is
    (subst (IsShorter kept (left_over kept (opened_below stack) (Holds last c.in-Holds.priority) ts)) (rw c.in-Some.is at c.in_ok-go_on-in-Holds.ensures)
    (go_on_shorter kept (opened_below stack) last c.in-Holds.priority ts))

pub loop-now-preserved : goal.loop-now-preserved
loop-now-preserved c = further c.loop-now.invariant (rw c.in-Holds.is (rw c.in-Some.is at c.in_ok-go_on-in-Holds.ensures))
