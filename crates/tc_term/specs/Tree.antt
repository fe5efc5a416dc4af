-- Terms as trees: their sizes, and which of them are tuples.
use Rattle.std.specs.Prelude.{ℕ, ℤ, ◌+◌, ◌≤◌, max, Bool, true, false, ◌&&◌, IsTrue, FitsSigned, List, length}
use mir.Syntax.{w64}
use Rattle.tc_term.specs.Limits.{most_nodes, most_depth, most_name_bytes}

mutual
  -- a variable with its number, an atom, a whole number, or a compound: a name with its arguments
  pub data Tree : Type 0 where
    Variable : ℕ → Tree
    Atomic : List ℕ → Tree
    Number : ℤ → Tree
    Compound : List ℕ → Trees → Tree

  -- one tree or more
  pub data Trees : Type 0 where
    Last : Tree → Trees
    More : Tree → Trees → Trees

-- how many variables, atoms, numbers and compounds there are
abbrev mutual
  pub nodes : Tree → ℕ
  nodes (Variable n) = 1
  nodes (Atomic name) = 1
  nodes (Number n) = 1
  nodes (Compound name args) = 1 + nodes_of_all args

  pub nodes_of_all : Trees → ℕ
  nodes_of_all (Last t) = nodes t
  nodes_of_all (More t ts) = nodes t + nodes_of_all ts

-- how many nodes stand below one another at most: a node without arguments has depth 1
abbrev mutual
  pub depth : Tree → ℕ
  depth (Variable n) = 1
  depth (Atomic name) = 1
  depth (Number n) = 1
  depth (Compound name args) = 1 + depth_of_all args

  pub depth_of_all : Trees → ℕ
  depth_of_all (Last t) = depth t
  depth_of_all (More t ts) = max (depth t) (depth_of_all ts)

-- how many bytes all names have together
abbrev mutual
  pub name_bytes : Tree → ℕ
  name_bytes (Variable n) = 0
  name_bytes (Atomic name) = length name
  name_bytes (Number n) = 0
  name_bytes (Compound name args) = length name + name_bytes_of_all args

  pub name_bytes_of_all : Trees → ℕ
  name_bytes_of_all (Last t) = name_bytes t
  name_bytes_of_all (More t ts) = name_bytes t + name_bytes_of_all ts

-- whether no variable is in it
abbrev mutual
  pub is_ground : Tree → Bool
  is_ground (Variable n) = false
  is_ground (Atomic name) = true
  is_ground (Number n) = true
  is_ground (Compound name args) = are_ground args

  pub are_ground : Trees → Bool
  are_ground (Last t) = is_ground t
  are_ground (More t ts) = is_ground t && are_ground ts

-- each number in the term is one of 64 bits
abbrev mutual
  pub HasIntegers : Tree → Type 0
  HasIntegers (Variable n) = Unit {0}
  HasIntegers (Atomic name) = Unit {0}
  HasIntegers (Number z) = FitsSigned w64 z
  HasIntegers (Compound name args) = HaveIntegers args

  pub HaveIntegers : Trees → Type 0
  HaveIntegers (Last t) = HasIntegers t
  HaveIntegers (More t ts) = HasIntegers t × HaveIntegers ts

-- the term is within the limits of a term: its size, and numbers of 64 bits
pub record Fits (t : Tree) : Type 0 where
  pub nodes : nodes t ≤ most_nodes
  pub depth : depth t ≤ most_depth
  pub name_bytes : name_bytes t ≤ most_name_bytes
  pub integers : HasIntegers t

-- the term is ground and within the limits
pub record IsTuple (t : Tree) : Type 0 where
  pub ground : IsTrue (is_ground t)
  pub fits : Fits t
