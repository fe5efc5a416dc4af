-- What comes of the body of a reaction: it fires, or it fails at a goal.
use Rattle.std.specs.Prelude.{◌≡◌, ◌+◌, ℕ, Some, List, [], ◌∷◌, slice_get, take}
use Rattle.tc_term.specs.Tree.{Tree}
use Rattle.tc_term.specs.Variables.{raised}
use Rattle.tc_model.specs.Choices.{Choice}
use Rattle.tc_model.specs.Events.{Occurrence, Setting}
use Rattle.tc_model.specs.Reactions.{Rule}
use Rattle.tc_model.specs.Goals.{Scene, Moment, Leads, IsStuck}
use Rattle.tc_model.specs.declared.goals.Goal.{Goal}
use Rattle.tc_model.specs.declared.items.Effect.{Effect}
use Rattle.tc_model.specs.declared.items.Item.{Item}
use Rattle.tc_model.specs.declared.items.Item.TheVariants.{Fired, Failed}

abbrev pub scene_of : Rule → Occurrence → Setting → Scene
scene_of r e setting = record { vars = r.vars; event = e; setting = setting }

-- a body begins with one equation, of its head and the event's term
abbrev pub beginning : Rule → Occurrence → List Tree → Moment
beginning r e tuples = record {
  pairs = (r.head, raised r.vars e.term) ∷ [];
  tuples = tuples;
  effects = [];
}

-- every goal has done its step, with these effects; a rule has a goal, whose step says that head
-- and event can be made equal
pub record IsFired
    (choice : Choice) (r : Rule) (e : Occurrence) (setting : Setting) (tuples : List Tree)
    (effects : List Effect) : Type 0 where
  pub end : Moment
  pub leads : Leads choice (scene_of r e setting) r.goals (beginning r e tuples) end
  pub recorded : end.effects ≡ effects

-- the goals before the one of this number have done their steps, with these effects, and it can do
-- none; goals count from 1
pub record IsFailed
    (choice : Choice) (r : Rule) (e : Occurrence) (setting : Setting) (tuples : List Tree)
    (number : ℕ) (effects : List Effect) : Type 0 where
  pub place : ℕ
  pub at : number ≡ place + 1
  pub goal : Goal
  pub stands : slice_get r.goals place ≡ Some goal
  pub end : Moment
  pub leads : Leads choice (scene_of r e setting) (take place r.goals) (beginning r e tuples) end
  pub recorded : end.effects ≡ effects
  pub stuck : IsStuck (scene_of r e setting) goal end

-- the item says what comes of the body over these tuples
abbrev pub IsBody : Choice → Rule → Occurrence → Setting → List Tree → Item → Type 0
IsBody choice r e setting tuples (Fired pick clause effects) =
    IsFired choice r e setting tuples effects
IsBody choice r e setting tuples (Failed pick clause goal effects) =
    IsFailed choice r e setting tuples goal effects
