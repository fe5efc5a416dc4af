use Rattle.std.proofs.Common.{◌≡◌, ◌+◌, length, take}
use Rattle.std.specs.List.{flat_map}
use Rattle.tc_replay.proofs.parts.place_in.Given as goal

-- the place lies so far behind the parts before this one
abbrev pub invariant-loop-at : goal.invariant-loop-at
invariant-loop-at g l = l.place ≡ length (flat_map g.P.Part.members (take l.at l.parts.items)) + l.left
