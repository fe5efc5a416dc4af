-- The variables of a term, and the term with other trees in their places.
use Rattle.std.specs.Prelude.{◌≡◌, ℕ, ◌+◌, ◌≤◌, ◌==◌, if◌then◌else◌, max, List, [], ◌∷◌, ◌++◌, length}
use Rattle.std.specs.List.{range_with_len}
use Rattle.tc_term.specs.Limits.{most_variables}
use Rattle.tc_term.specs.Tree.{Tree, Variable, Atomic, Number, Compound, Trees, Last, More, Fits}

-- the term with each variable replaced by the tree of its number
abbrev mutual
  pub instance : (ℕ → Tree) → Tree → Tree
  instance f (Variable n) = f n
  instance f (Atomic name) = Atomic name
  instance f (Number n) = Number n
  instance f (Compound name args) = Compound name (instances f args)

  pub instances : (ℕ → Tree) → Trees → Trees
  instances f (Last t) = Last (instance f t)
  instances f (More t ts) = More (instance f t) (instances f ts)

-- the term with other variables in place of its own
abbrev pub renamed : (ℕ → ℕ) → Tree → Tree
renamed g t = instance (λ n. Variable (g n)) t

-- the same of arguments
abbrev pub all_renamed : (ℕ → ℕ) → Trees → Trees
all_renamed g ts = instances (λ n. Variable (g n)) ts

-- one more than the greatest variable number, or 0 where there is no variable
abbrev mutual
  pub var_bound : Tree → ℕ
  var_bound (Variable n) = n + 1
  var_bound (Atomic name) = 0
  var_bound (Number n) = 0
  var_bound (Compound name args) = var_bound_of_all args

  pub var_bound_of_all : Trees → ℕ
  var_bound_of_all (Last t) = var_bound t
  var_bound_of_all (More t ts) = max (var_bound t) (var_bound_of_all ts)

-- the term with each variable number raised by k
abbrev pub raised : ℕ → Tree → Tree
raised k t = renamed (λ n. n + k) t

-- where a number stands first in a list, counted from 0; the list's length where it doesn't
abbrev pub place_in : List ℕ → ℕ → ℕ
place_in [] n = 0
place_in (m ∷ ms) n = if m == n then 0 else place_in ms n + 1

-- the list, with the number behind it where it doesn't stand there yet
abbrev pub with_number : List ℕ → ℕ → List ℕ
with_number seen n = if place_in seen n == length seen then seen ++ n ∷ [] else seen

-- the variables that were seen before, and then those of the term, by first appearance
abbrev mutual
  pub variables_after : List ℕ → Tree → List ℕ
  variables_after seen (Variable n) = with_number seen n
  variables_after seen (Atomic name) = seen
  variables_after seen (Number n) = seen
  variables_after seen (Compound name args) = variables_after_all seen args

  pub variables_after_all : List ℕ → Trees → List ℕ
  variables_after_all seen (Last t) = variables_after seen t
  variables_after_all seen (More t ts) = variables_after_all (variables_after seen t) ts

-- the variables of a term by first appearance, each once
abbrev pub variables : Tree → List ℕ
variables t = variables_after [] t

-- the term with its variables numbered 0, 1, .. by first appearance
abbrev pub renumbered : Tree → Tree
renumbered t = renamed (place_in (variables t)) t

-- the term is within the limits of a template: those of a term, and few different variables
pub record IsTemplate (t : Tree) : Type 0 where
  pub fits : Fits t
  pub few : length (variables t) ≤ most_variables

-- the term is within the limits of a template, and its variables are 0, 1, .. by first appearance
pub record IsPattern (t : Tree) : Type 0 where
  pub template : IsTemplate t
  pub numbered : variables t ≡ range_with_len 0 (length (variables t))
