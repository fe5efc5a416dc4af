use Rattle.std.proofs.Common.{◌≡◌, vec_len, List, Option, All, Contains}
use Rattle.tc_term.specs.Tree.{Tree}
use Rattle.tc_bag.specs.Places.{slots_of, AgesRise}
use Rattle.tc_bag.proofs.places.trim.Given as goal

abbrev pub invariant-loop-place : goal.invariant-loop-place
invariant-loop-place l = ((rows : List (Option Tree)) → slots_of rows l.places.items ≡ slots_of rows l.fn.places.items)
    × AgesRise l.places.items × All (Contains l.fn.places.items) l.places.items

abbrev pub decreases-loop-place : goal.decreases-loop-place
decreases-loop-place l = vec_len l.places
