-- Each body has an outcome.
use Rattle.std.proofs.Common.{◌≡◌, ◌+◌, ℕ, suc, List, [], ◌∷◌, Some, take, refl}
use Rattle.std.specs.List.{slice_get}
use Rattle.tc_lists.proofs.Firsts.{NoneOf-from_All, none_first}
use Rattle.tc_term.specs.Tree.{Tree}
use Rattle.tc_term.specs.TreeView.{tree_of}
use Rattle.tc_model.specs.Choices.{TheFirst}
use Rattle.tc_model.specs.Events.{Occurrence, Setting}
use Rattle.tc_model.specs.Reactions.{Rule}
use Rattle.tc_model.specs.Goals.{Scene, Moment, Move, Takes, Reads, IsStep, IsStuck, IsMatchAt, Leads, moved}
use Rattle.tc_model.specs.Bodies.{scene_of, beginning, IsFired, IsFailed}
use Rattle.tc_model.specs.declared.goals.Goal.{Goal}
use Rattle.tc_model.specs.declared.goals.Goal.TheVariants.{OutR, InR, RdR, NoR, Pre, Post}
use Rattle.tc_model.specs.declared.goals.Goal.TheVariants.{Success, Failure, True, Agent}
use Rattle.tc_model.specs.declared.goals.Goal.TheVariants.{Centre, Operation, Tuple, Equal}
use Rattle.tc_model.specs.declared.goals.Goal.TheVariants.{Differ, Is, Compare}
use Rattle.tc_model.specs.declared.items.Effect.{Effect}

module _ (scene : Scene) where
  -- a goal that has no step by the first tuple has none by any
  stuck : (g : Goal) (m : Moment) → ((move : Move) → IsStep TheFirst scene g m move → ⊥) → IsStuck scene g m
  stuck (InR t) m none move step =
      NoneOf-from_All (IsMatchAt scene m (tree_of t)) m.tuples
      (none_first (IsMatchAt scene m (tree_of t)) m.tuples
      (λ u first. none (Takes (tree_of t) u) (record { before = step.before; does = (u, first, refl); behind = first.has })))
      step.does.0 step.does.1.0 step.does.1.1
  stuck (RdR t) m none move step =
      NoneOf-from_All (IsMatchAt scene m (tree_of t)) m.tuples
      (none_first (IsMatchAt scene m (tree_of t)) m.tuples
      (λ u first. none (Reads (tree_of t) u) (record { before = step.before; does = (u, first, refl); behind = first.has })))
      step.does.0 step.does.1.0 step.does.1.1
  stuck (OutR t) m none move step = none move (record { before = step.before; does = step.does; behind = step.behind })
  stuck (NoR t) m none move step = none move (record { before = step.before; does = step.does; behind = step.behind })
  stuck Pre m none move step = none move (record { before = step.before; does = step.does; behind = step.behind })
  stuck Post m none move step = none move (record { before = step.before; does = step.does; behind = step.behind })
  stuck Success m none move step = none move (record { before = step.before; does = step.does; behind = step.behind })
  stuck Failure m none move step = none move (record { before = step.before; does = step.does; behind = step.behind })
  stuck True m none move step = none move (record { before = step.before; does = step.does; behind = step.behind })
  stuck (Agent t) m none move step = none move (record { before = step.before; does = step.does; behind = step.behind })
  stuck (Centre t) m none move step = none move (record { before = step.before; does = step.does; behind = step.behind })
  stuck (Operation t) m none move step = none move (record { before = step.before; does = step.does; behind = step.behind })
  stuck (Tuple t) m none move step = none move (record { before = step.before; does = step.does; behind = step.behind })
  stuck (Equal s t) m none move step = none move (record { before = step.before; does = step.does; behind = step.behind })
  stuck (Differ s t) m none move step = none move (record { before = step.before; does = step.does; behind = step.behind })
  stuck (Is s t) m none move step = none move (record { before = step.before; does = step.does; behind = step.behind })
  stuck (Compare comparison s t) m none move step =
      none move (record { before = step.before; does = step.does; behind = step.behind })

  -- goals do all their steps, or one of them is the first that has none
  goals_end : (gs : List Goal) (m : Moment)
      → ((end : Moment) → Leads TheFirst scene gs m end → ⊥)
      → ((place : ℕ) (goal : Goal) (end : Moment) → slice_get gs place ≡ Some goal
      → Leads TheFirst scene (take place gs) m end → IsStuck scene goal end → ⊥)
      → ⊥
  goals_end [] m all one = all m refl
  goals_end (g ∷ gs) m all one =
      one 0 g m refl refl
      (stuck g m (λ move step.
      goals_end gs (moved move m) (λ end leads. all end (move, step, leads))
      (λ place goal end stands leads. one (suc place) goal end stands (move, step, leads))))

-- a body fires, or fails at a goal
pub body_ends : (r : Rule) (e : Occurrence) (setting : Setting) (tuples : List Tree)
    → ((effects : List Effect) → IsFired TheFirst r e setting tuples effects → ⊥)
    → ((goal : ℕ) (effects : List Effect) → IsFailed TheFirst r e setting tuples goal effects → ⊥)
    → ⊥
body_ends r e setting tuples fires fails =
    goals_end (scene_of r e setting) r.goals (beginning r e tuples)
    (λ end leads. fires end.effects (record { end = end; leads = leads; recorded = refl }))
    (λ place goal end stands leads never. fails (place + 1) end.effects (record {
      place = place;
      at = refl;
      goal = goal;
      stands = stands;
      end = end;
      leads = leads;
      recorded = refl;
      stuck = never;
    }))
