use Rattle.std.proofs.Common.{◌≡◌, ◌≤◌, ◌+◌, length, map, filter, take, vec_capacity, All}
use Rattle.tc_bag.specs.Slots.{InOrder, IsLogged, is_there, revived}
use Rattle.tc_bag.proofs.log.unwind.Given as goal

abbrev pub invariant-loop-log : goal.invariant-loop-log
invariant-loop-log l =
    (map (revived l.fn.count) l.rows ≡ map (revived l.fn.count) l.fn.rows)
    × InOrder l.rows
    × All (IsLogged l.log.items) l.rows
    × (take l.fn.count l.log.items ≡ take l.fn.count l.fn.log.items)
    × (vec_capacity l.log ≡ vec_capacity l.fn.log)
    × (length l.log.items + length (filter is_there l.rows) ≤ length l.fn.log.items + length (filter is_there l.fn.rows))

abbrev pub decreases-loop-log : goal.decreases-loop-log
decreases-loop-log l = length l.log.items
