-- What is known of the variables of a script.
use Rattle.std.specs.Prelude.{◌≡◌, ◌≤◌, ℕ, All, List, Option, Some, None}
use Rattle.std.proofs.Common.{get_or}
use Rattle.tc_term.specs.Equations.{Equation, Equations, Solvable}
use Rattle.tc_term.specs.Tree.{Tree, Trees, IsTuple}
use Rattle.tc_term.specs.Variables.{instances, var_bound}
use Rattle.tc_desk.specs.Asks.{value_or_variable}

-- the equations of so many variables, or that nothing solves them
abbrev pub AreKnown : ℕ → List Equation → Option Equations → Type 0
AreKnown vars es (Some known) = known ≡ record { vars = vars; pairs = es }
AreKnown vars es None = Solvable vars es → ⊥

-- the equations are solvable, and say of each template that it is equal to a tuple
pub record IsSolved (known : Equations) : Type 0 where
  pub solvable : Solvable known.vars known.pairs
  pub tuples : All (λ e. IsTuple e.1) known.pairs

-- the term's variables are those of the equations
abbrev pub HasBounds : Option Equations → Tree → Type 0
HasBounds (Some known) t = var_bound t ≤ known.vars
HasBounds None t = Unit {0}

-- arguments with each variable replaced that has a value
abbrev pub all_with_values : List (Option Tree) → Trees → Trees
all_with_values values ts = instances (λ n. value_or_variable n (get_or values n None)) ts
