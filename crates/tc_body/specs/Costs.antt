-- How many steps a body may make.
use Rattle.std.specs.Prelude.{ℕ, ◌+◌, ◌*◌, if◌then◌else◌, Bool, true, false, Option, Some, None}
use Rattle.std.specs.Prelude.{List, [], ◌∷◌, take}
use Rattle.tc_term.specs.Tree.{Tree}
use Rattle.tc_term.specs.TreeView.{tree_of}
use Rattle.tc_steps.specs.Tops.{agreeing}
use Rattle.tc_model.specs.Reactions.{Rule}
use Rattle.tc_model.specs.Tuples.{after_effect}
use Rattle.tc_model.specs.declared.goals.Goal.{Goal}
use Rattle.tc_model.specs.declared.goals.Goal.TheVariants.{OutR, InR, RdR, NoR}
use Rattle.tc_model.specs.declared.items.Effect.{Effect}
use Rattle.tc_model.specs.declared.items.Item.{Item}
use Rattle.tc_model.specs.declared.items.Item.TheVariants.{Fired, Failed}

-- the term that a goal seeks among the tuples, if it seeks one
abbrev pub sought : Goal → Option Tree
sought (InR t) = Some (tree_of t)
sought (RdR t) = Some (tree_of t)
sought (NoR t) = Some (tree_of t)
sought g = None

-- the most steps of a search: two for each tuple that agrees at its top with the term sought
abbrev pub search_steps : Option Tree → List Tree → ℕ
search_steps (Some t) tuples = 2 * agreeing t tuples
search_steps None tuples = 0

-- the most steps of a goal: one, and those of its search for the term as it is written
abbrev pub goal_steps : Goal → List Tree → ℕ
goal_steps g tuples = 1 + search_steps (sought g) tuples

-- whether a goal has an effect
abbrev pub has_effect : Goal → Bool
has_effect (OutR t) = true
has_effect (InR t) = true
has_effect (RdR t) = true
has_effect g = false

-- the effects behind a goal: the first one is the goal's, if it has one
abbrev pub behind : Goal → List Effect → List Effect
behind g [] = []
behind g (e ∷ es) = if has_effect g then es else e ∷ es

-- the tuples after a goal: the first effect is the goal's, if it has one
abbrev pub after_goal : Goal → List Effect → List Tree → List Tree
after_goal g [] tuples = tuples
after_goal g (e ∷ es) tuples = if has_effect g then after_effect e tuples else tuples

-- the most steps of goals, one after another, that have these effects; a goal that should have one
-- and for which none is left is the one that has failed
abbrev pub goals_steps : List Goal → List Effect → List Tree → ℕ
goals_steps [] es tuples = 0
goals_steps (g ∷ gs) es tuples =
    goal_steps g tuples + goals_steps gs (behind g es) (after_goal g es tuples)

-- the goals that a body has reached: all where it has fired, else those up to the one that failed
abbrev pub reached : Rule → Item → List Goal
reached r (Fired pick clause effects) = r.goals
reached r (Failed pick clause goal effects) = take goal r.goals

-- the effects of the goals that did their steps
abbrev pub effects_of : Item → List Effect
effects_of (Fired pick clause effects) = effects
effects_of (Failed pick clause goal effects) = effects

-- the most steps of a body: one for its head, and those of the goals that it has reached
abbrev pub body_steps : Rule → Item → List Tree → ℕ
body_steps r item tuples = 1 + goals_steps (reached r item) (effects_of item) tuples
