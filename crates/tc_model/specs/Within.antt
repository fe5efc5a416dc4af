-- The terms of a goal, and what its reaction keeps of them.
use Rattle.std.specs.Prelude.{ℕ, ◌≤◌, List, [], ◌∷◌}
use Rattle.tc_term.specs.Tree.{Tree, Fits}
use Rattle.tc_term.specs.TreeView.{tree_of}
use Rattle.tc_term.specs.Variables.{var_bound}
use Rattle.tc_model.specs.declared.goals.Goal.{Goal}
use Rattle.tc_model.specs.declared.goals.Goal.TheVariants.{OutR, InR, RdR, NoR, Pre, Post}
use Rattle.tc_model.specs.declared.goals.Goal.TheVariants.{Success, Failure, True, Agent}
use Rattle.tc_model.specs.declared.goals.Goal.TheVariants.{Centre, Operation, Tuple, Equal}
use Rattle.tc_model.specs.declared.goals.Goal.TheVariants.{Differ, Is, Compare}

-- the terms of a goal
abbrev pub terms_of : Goal → List Tree
terms_of (OutR t) = tree_of t ∷ []
terms_of (InR t) = tree_of t ∷ []
terms_of (RdR t) = tree_of t ∷ []
terms_of (NoR t) = tree_of t ∷ []
terms_of Pre = []
terms_of Post = []
terms_of Success = []
terms_of Failure = []
terms_of True = []
terms_of (Agent t) = tree_of t ∷ []
terms_of (Centre t) = tree_of t ∷ []
terms_of (Operation t) = tree_of t ∷ []
terms_of (Tuple t) = tree_of t ∷ []
terms_of (Equal s t) = tree_of s ∷ tree_of t ∷ []
terms_of (Differ s t) = tree_of s ∷ tree_of t ∷ []
terms_of (Is s t) = tree_of s ∷ tree_of t ∷ []
terms_of (Compare comparison s t) = tree_of s ∷ tree_of t ∷ []

-- the term's variables are below the number, and it is within the limits of a term
pub record HasVarsBelow (vars : ℕ) (t : Tree) : Type 0 where
  pub bound : var_bound t ≤ vars
  pub fits : Fits t
