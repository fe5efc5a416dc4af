use Rattle.std.proofs.Common.{ℕ, ◌≤◌, length}
use Rattle.tc_term.specs.Tree.{Tree}
use Rattle.tc_unify.specs.Nodes.{label}
use Rattle.tc_unify.specs.Links.{Respects, IsFinite}
use Rattle.tc_unify.specs.Arena.{shape_of}
use Rattle.tc_unify.specs.Tables.{link_of}
use Rattle.tc_unify.specs.Walks.{Awaits, Descends}
use Rattle.tc_unify.specs.WalkMarks.{IsMarked, Knows, steps_of, walk_work}
use Rattle.tc_unify.proofs.walk.walk_below.Given as goal

abbrev pub invariant-loop-step : goal.invariant-loop-step
invariant-loop-step l = record {
  awaits : Awaits (shape_of l.arena) (link_of l.links) l.nodes (IsFinite (shape_of l.arena) (link_of l.links)) (steps_of l.walk);
  descends : (v : ℕ → Tree) → Respects (label (shape_of l.arena) v) (link_of l.links) → Descends (label (shape_of l.arena) v) (steps_of l.walk);
  known : Knows l.arena l.links l.walk;
  room : length l.arena.nodes.items ≤ length l.walk.marks.items;
  marked : IsMarked l.walk;
}

abbrev pub decreases-loop-step : goal.decreases-loop-step
decreases-loop-step l = walk_work l.walk
