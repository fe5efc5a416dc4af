use Rattle.std.proofs.Common.{◌≡◌}
use Rattle.std.specs.List.{flat_map}
use Rattle.tc_replay.proofs.parts.drop_spent.Given as goal

-- what is left of the parts stays
abbrev pub invariant-loop-part : goal.invariant-loop-part
invariant-loop-part g l = flat_map g.P.Part.members l.parts.items ≡ flat_map g.P.Part.members l.initial.parts.items

abbrev pub decreases-loop-part : goal.decreases-loop-part
decreases-loop-part g l = l.parts.len
