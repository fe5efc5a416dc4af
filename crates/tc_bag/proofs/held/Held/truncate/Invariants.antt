use Rattle.std.proofs.Common.{◌≡◌, filter, length}
use Rattle.tc_bag.specs.Slots.{InOrder, is_older}
use Rattle.tc_bag.proofs.held.Held.truncate.Given as goal

abbrev pub invariant-loop-age : goal.invariant-loop-age
invariant-loop-age l = (filter (is_older l.fn.next) l.self ≡ filter (is_older l.fn.next) l.fn.self) × InOrder l.self

abbrev pub decreases-loop-age : goal.decreases-loop-age
decreases-loop-age l = length l.self
