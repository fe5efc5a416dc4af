-- A moment of a body by its parts, and what one goal does there.
use Rattle.std.specs.Prelude.{ℕ, ℤ, ◌≡◌, ◌++◌, Option, Some, None, List, [], ◌∷◌}
use Rattle.tc_term.specs.Tree.{Tree}
use Rattle.tc_term.specs.Arithmetic.{evaluated}
use Rattle.tc_term.specs.Equations.{Equations, Solvable, HasValue}
use Rattle.tc_model.specs.Choices.{Choice}
use Rattle.tc_model.specs.Events.{Occurrence, Setting}
use Rattle.tc_model.specs.Goals.{Scene, Moment, Move, IsStep, moved}
use Rattle.tc_model.specs.declared.goals.Goal.{Goal}
use Rattle.tc_model.specs.declared.items.Effect.{Effect}

-- a body runs behind so many variables of its own, for this event, in this setting
abbrev pub scene : ℕ → Occurrence → Setting → Scene
scene vars event setting = record { vars = vars; event = event; setting = setting }

-- the moment with these equations, these tuples and these effects so far
abbrev pub moment : Equations → List Tree → List Effect → Moment
moment es tuples effects = record { pairs = es.pairs; tuples = tuples; effects = effects }

-- the goal has done a step, by this choice, which leads here
pub record IsDoneBy (choice : Choice) (scene : Scene) (goal : Goal) (m end : Moment)
    : Type 0 where
  pub move : Move
  pub step : IsStep choice scene goal m move
  pub leads : end ≡ moved move m

-- two terms can't be made equal under the equations
abbrev pub CannotEqual : Equations → Tree → Tree → Type 0
CannotEqual es s t = Solvable es.vars (es.pairs ++ (s, t) ∷ []) → ⊥

-- the term has a value under the equations, which evaluates to this number
pub record EvaluatesIn (es : Equations) (t : Tree) (i : ℤ) : Type 0 where
  pub value : Tree
  pub is : HasValue es.vars es.pairs t value
  pub evaluates : evaluated value ≡ Some i

-- the number to which the term evaluates, where there is one
abbrev pub IsNumberOf : Equations → Tree → Option ℤ → Type 0
IsNumberOf es t (Some i) = EvaluatesIn es t i
IsNumberOf es t None = (i : ℤ) → EvaluatesIn es t i → ⊥
