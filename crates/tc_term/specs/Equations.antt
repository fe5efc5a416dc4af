-- What equations say of their variables: which valuations solve them, and which values that leaves.
use Rattle.std.specs.Prelude.{◌≡◌, ℕ, IsTrue, All, List, [], ◌∷◌, ◌++◌, length}
use Rattle.std.proofs.Common.{get_or}
use Rattle.tc_term.specs.Tree.{Tree, Atomic, Trees, is_ground, Fits}
use Rattle.tc_term.specs.Variables.{instance, instances}

-- the tree that a valuation has for a variable; beyond its end, some tree
abbrev pub at : List Tree → ℕ → Tree
at v n = get_or v n (Atomic [])

-- the term with each variable replaced by its tree of the valuation
abbrev pub under : List Tree → Tree → Tree
under v t = instance (at v) t

-- the same of arguments
abbrev pub all_under : List Tree → Trees → Trees
all_under v ts = instances (at v) ts

-- two terms that are to be equal
abbrev pub Equation : Type 0
Equation = Tree × Tree

-- ground trees for n variables, under which both sides of each equation are equal
pub record Solves (n : ℕ) (es : List Equation) (v : List Tree) : Type 0 where
  pub whole : length v ≡ n
  pub ground : All (λ t. IsTrue (is_ground t)) v
  pub equal : All (λ e. under v e.0 ≡ under v e.1) es

-- some valuation of n variables solves the equations
pub record Solvable (n : ℕ) (es : List Equation) : Type 0 where
  pub valuation : List Tree
  pub solves : Solves n es valuation

-- the value of a term: what every valuation that solves the equations makes of it, and it fits
pub record HasValue (n : ℕ) (es : List Equation) (t value : Tree) : Type 0 where
  pub solvable : Solvable n es
  pub unique : (v : List Tree) → Solves n es v → under v t ≡ value
  pub fits : Fits value

-- the template matches the tuple: the equations with template = tuple behind them are solvable
abbrev pub Matches : ℕ → List Equation → Tree → Tree → Type 0
Matches n es template tuple = Solvable n (es ++ (template, tuple) ∷ [])

-- a list of equations over a number of variables
pub record Equations : Type 0 where
  pub vars : ℕ
  pub pairs : List Equation

-- the equations with one more behind them
abbrev pub with_pair : Equations → Tree → Tree → Equations
with_pair es s t = record es { pairs = es.pairs ++ (s, t) ∷ [] }
