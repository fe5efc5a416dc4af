use Rattle.std.proofs.Common.{take}
use Rattle.tc_model.specs.State.{Origin}
use Rattle.tc_rows.specs.Fulls.{ArePointsBelow, IsLoadOf, IsQuietWith}
use Rattle.tc_rows.proofs.fulls.points_in.Given as goal

-- the points before the place are noted, and the load there is known
abbrev pub invariant-loop-place : goal.invariant-loop-place
invariant-loop-place l = record {
  load : (origin : Origin) → IsQuietWith origin l.budget l.history
      → IsLoadOf origin (take l.place l.history) l.load;
  points : (origin : Origin) → IsQuietWith origin l.budget l.history
      → ArePointsBelow origin l.history l.place l.points.items;
}
