use Rattle.std.proofs.Common.{◌≡◌, [], take, List, Option}
use Rattle.tc_term.specs.Tree.{Tree}
use Rattle.tc_bag.specs.Places.{slots_of}
use Rattle.tc_bag.proofs.places.first_filled.Given as goal

-- so far there were gaps
abbrev pub invariant-loop-place : goal.invariant-loop-place
invariant-loop-place l = (rows : List (Option Tree)) → slots_of rows (take l.place-index l.places) ≡ []
