use Rattle.std.proofs.Common.{◌≡◌, ◌+◌, ◌≤◌, drop, filter, length}
use Rattle.tc_bag.proofs.Walks.{is_row_there}
use Rattle.tc_bag.proofs.places.Places.count.Given as goal

abbrev pub invariant-loop-place : goal.invariant-loop-place
invariant-loop-place l = (l.count ≤ l.place-index)
    × (l.count + length (filter is_row_there (drop l.place-index l.place-items)) ≡ length (filter is_row_there l.place-items))
