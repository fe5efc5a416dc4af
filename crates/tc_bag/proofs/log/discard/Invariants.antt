use Rattle.std.proofs.Common.{◌≡◌, length, filter, vec_capacity, All}
use Rattle.tc_bag.specs.Slots.{InOrder, IsLogged, is_there}
use Rattle.tc_bag.proofs.log.discard.Given as goal

abbrev pub invariant-loop-age : goal.invariant-loop-age
invariant-loop-age l =
    (filter is_there l.rows ≡ filter is_there l.fn.rows)
    × InOrder l.rows
    × All (IsLogged l.log.items) l.rows
    × (vec_capacity l.log ≡ vec_capacity l.fn.log)

abbrev pub decreases-loop-age : goal.decreases-loop-age
decreases-loop-age l = length l.log.items
