use Rattle.std.proofs.Common.{◌≡◌, drop, slice_get}
use Rattle.tc_bag.specs.Places.{slots_of}
use Rattle.tc_bag.specs.Slots.{tuples_there}
use Rattle.tc_bag.proofs.places.Places.nth.Given as goal

abbrev pub invariant-loop-place : goal.invariant-loop-place
invariant-loop-place l =
    slice_get (tuples_there (slots_of l.self-inside.rows l.place-items)) l.i
    ≡ slice_get (tuples_there (slots_of l.self-inside.rows (drop l.place-index l.place-items))) l.left
