-- What one goal of a reaction does, and what several do one after another.
use Rattle.std.specs.Prelude.{◌≡◌, ◌+◌, ℕ, ℤ, IsTrue, Some, List, [], ◌∷◌}
use Rattle.std.specs.Prelude.{◌++◌}
use Rattle.tc_lists.specs.Firsts.{NoneOf}
use Rattle.tc_term.specs.Tree.{Tree, Atomic, Number}
use Rattle.tc_term.specs.TreeView.{tree_of}
use Rattle.tc_term.specs.Variables.{raised, var_bound}
use Rattle.tc_term.specs.Equations.{Equation, Solvable, HasValue, Matches}
use Rattle.tc_term.specs.Arithmetic.{evaluated, holds}
use Rattle.tc_model.specs.Choices.{Choice, AnyOne, IsChosen}
use Rattle.tc_model.specs.Events.{Occurrence, Setting, op_name}
use Rattle.tc_model.specs.Tuples.{after_effect}
use Rattle.tc_model.specs.declared.events.Phase.TheVariants as phase
use Rattle.tc_model.specs.declared.events.Sign.TheVariants as sign
use Rattle.tc_model.specs.declared.goals.Goal.{Goal}
use Rattle.tc_model.specs.declared.goals.Goal.TheVariants.{OutR, InR, RdR, NoR, Pre, Post}
use Rattle.tc_model.specs.declared.goals.Goal.TheVariants.{Success, Failure, True, Agent}
use Rattle.tc_model.specs.declared.goals.Goal.TheVariants.{Centre, Operation, Tuple, Equal}
use Rattle.tc_model.specs.declared.goals.Goal.TheVariants.{Differ, Is, Compare}
use Rattle.tc_model.specs.declared.items.Effect.{Effect}
use Rattle.tc_model.specs.declared.items.Effect.TheVariants.{Put, Took, Read}

-- where a body runs: behind how many variables of its own, for which event, in which setting
pub record Scene : Type 0 where
  pub vars : ℕ
  pub event : Occurrence
  pub setting : Setting

-- the event's term, whose variables stand behind those of the reaction
abbrev pub event_term : Scene → Tree
event_term scene = raised scene.vars scene.event.term

-- how many variables there are, of the reaction and of the event
abbrev pub width : Scene → ℕ
width scene = scene.vars + var_bound scene.event.term

-- how far a body has come: its equations, the tuples, and its effects so far
pub record Moment : Type 0 where
  pub pairs : List Equation
  pub tuples : List Tree
  pub effects : List Effect

-- what a goal does at a moment: nothing; it adds the equation of two terms; it puts a tuple; or it
-- takes or reads a tuple, and adds the equation of a term and that tuple
pub data Move : Type 0 where
  Nothing : Move
  Equates : Tree → Tree → Move
  Puts : Tree → Move
  Takes : Tree → Tree → Move
  Reads : Tree → Tree → Move

abbrev pub equated : Tree → Tree → Moment → Moment
equated s t m = record m { pairs = m.pairs ++ (s, t) ∷ [] }

abbrev pub effected : Effect → Moment → Moment
effected e m = record m { tuples = after_effect e m.tuples; effects = m.effects ++ e ∷ [] }

-- the moment after a move
abbrev pub moved : Move → Moment → Moment
moved Nothing m = m
moved (Equates s t) m = equated s t m
moved (Puts tuple) m = effected (Put tuple) m
moved (Takes t tuple) m = effected (Took tuple) (equated t tuple m)
moved (Reads t tuple) m = effected (Read tuple) (equated t tuple m)

module _ (scene : Scene) where
  -- the term has this value at the moment
  abbrev pub IsValue : Moment → Tree → Tree → Type 0
  IsValue m t value = HasValue (width scene) m.pairs t value

  -- a tuple matches the term at the moment
  abbrev pub IsMatchAt : Moment → Tree → Tree → Type 0
  IsMatchAt m t tuple = Matches (width scene) m.pairs t tuple

  -- the term has a value at the moment, which evaluates to this number
  pub record Evaluates (m : Moment) (t : Tree) (i : ℤ) : Type 0 where
    pub value : Tree
    pub is : IsValue m t value
    pub evaluates : evaluated value ≡ Some i

module _ (choice : Choice) (scene : Scene) where
  -- the table of goals: what a goal may do at a moment
  abbrev pub Does : Goal → Moment → Move → Type 0
  Does (OutR t) m move = (v : Tree) × IsValue scene m (tree_of t) v × (move ≡ Puts v)
  Does (InR t) m move =
      (u : Tree) × IsChosen choice (IsMatchAt scene m (tree_of t)) m.tuples u
      × (move ≡ Takes (tree_of t) u)
  Does (RdR t) m move =
      (u : Tree) × IsChosen choice (IsMatchAt scene m (tree_of t)) m.tuples u
      × (move ≡ Reads (tree_of t) u)
  Does (NoR t) m move = NoneOf (IsMatchAt scene m (tree_of t)) m.tuples × (move ≡ Nothing)
  Does Pre m move = (scene.event.phase ≡ phase.Pre) × (move ≡ Nothing)
  Does Post m move = (scene.event.phase ≡ phase.Post) × (move ≡ Nothing)
  Does Success m move = (scene.event.sign ≡ sign.Success) × (move ≡ Nothing)
  Does Failure m move = (scene.event.sign ≡ sign.Failure) × (move ≡ Nothing)
  Does True m move = move ≡ Nothing
  Does (Agent t) m move = move ≡ Equates (tree_of t) (Atomic scene.setting.agent)
  Does (Centre t) m move = move ≡ Equates (tree_of t) (Atomic scene.setting.centre)
  Does (Operation t) m move = move ≡ Equates (tree_of t) (Atomic (op_name scene.event.op))
  Does (Tuple t) m move = move ≡ Equates (tree_of t) (event_term scene)
  Does (Equal s t) m move = move ≡ Equates (tree_of s) (tree_of t)
  Does (Differ s t) m move =
      (Solvable (width scene) (m.pairs ++ (tree_of s, tree_of t) ∷ []) → ⊥)
      × (move ≡ Nothing)
  Does (Is s t) m move =
      (i : ℤ) × Evaluates scene m (tree_of t) i × (move ≡ Equates (tree_of s) (Number i))
  Does (Compare comparison s t) m move =
      (i : ℤ) × (j : ℤ) × Evaluates scene m (tree_of s) i × Evaluates scene m (tree_of t) j
      × IsTrue (holds comparison i j) × (move ≡ Nothing)

  -- a goal does this: the equations are solvable before and after
  pub record IsStep (goal : Goal) (m : Moment) (move : Move) : Type 0 where
    pub before : Solvable (width scene) m.pairs
    pub does : Does goal m move
    pub behind : Solvable (width scene) (moved move m).pairs

  -- the goals do their steps one after another, from a moment to a moment
  abbrev pub Leads : List Goal → Moment → Moment → Type 0
  Leads [] m end = end ≡ m
  Leads (g ∷ gs) m end = (move : Move) × IsStep g m move × Leads gs (moved move m) end

-- the goal has no step at the moment, not by any tuple that it may choose
abbrev pub IsStuck : Scene → Goal → Moment → Type 0
IsStuck scene goal m = (move : Move) → IsStep AnyOne scene goal m move → ⊥
