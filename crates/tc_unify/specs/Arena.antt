-- The arena: what its nodes are, and what holds of it.
use Rattle.std.specs.Prelude.{◌≡◌, ℕ, ◌+◌, ◌-◌, ◌<◌, ◌≤◌, ◌⊎◌, List, length}
use Rattle.std.specs.Prelude.{take, drop, get_or, All, if◌then◌else◌, nat_lt}
use mathlib.Core.List.{IsPrefix}
use Rattle.tc_term.specs.Tree.{Tree, Variable}
use Rattle.tc_unify.specs.declared.names.TheConstants.{SHORT}
use Rattle.tc_unify.specs.declared.nodes.TheConstants.{FIRST_NAME, FIRST_VARIABLE}
use Rattle.tc_unify.specs.Names.{name_at}
use Rattle.tc_unify.specs.declared.nodes.Node.{Node}
use Rattle.tc_unify.specs.declared.nodes.Node.TheVariants.{Atom, Int, Apply}
use Rattle.tc_unify.specs.declared.nodes.Arena.{Arena}
use Rattle.tc_unify.specs.Nodes.{Shape, VariableNode, AtomNode, NumberNode, ApplyNode, IsHead, InOrder, label}

-- what a node is, by the bytes of names
abbrev pub node_shape : List ℕ → Node → Shape
node_shape text (Atom from len) = AtomNode (take len (drop from text))
node_shape text (Int n) = NumberNode n
node_shape text (Apply head argument) = ApplyNode head argument

-- what a node number is that stands for no term of the arena: an atom with a short name, or a
-- variable
unfoldable pub outer_shape : ℕ → Shape
outer_shape k =
    if nat_lt k FIRST_VARIABLE
    then AtomNode (name_at (k - FIRST_NAME))
    else VariableNode (k - FIRST_VARIABLE)

-- what a node number is; past the terms, the atom without a name
unfoldable pub shape_in : List Node → List ℕ → ℕ → Shape
shape_in nodes text k =
    if nat_lt k FIRST_NAME then node_shape text (get_or nodes k (Atom 0 0)) else outer_shape k

-- the node of a term, of a short name, or of one of so many variables
abbrev pub IsInside : List Node → ℕ → ℕ → Type 0
IsInside nodes count k = (k < length nodes) ⊎ ((FIRST_NAME ≤ k) × (k < FIRST_VARIABLE + count))

-- the node of a term, or of one of so many variables: it has a link
abbrev pub HasLink : List Node → ℕ → ℕ → Type 0
HasLink nodes count k =
    (k < length nodes) ⊎ ((FIRST_VARIABLE ≤ k) × (k < FIRST_VARIABLE + count))

-- the name is not short and stands in the text, and the nodes that the node names are inside
abbrev pub IsNodeWithin : List Node → List ℕ → ℕ → Node → Type 0
IsNodeWithin nodes text count (Atom from len) = (from + len ≤ length text) × (SHORT < len)
IsNodeWithin nodes text count (Int n) = Unit {0}
IsNodeWithin nodes text count (Apply head argument) =
    IsInside nodes count head × IsInside nodes count argument

-- the nodes that a node names are inside, and earlier or with no further nodes
pub record IsArenaOf (nodes : List Node) (text : List ℕ) (count : ℕ) : Type 0 where
  pub order : InOrder (shape_in nodes text)
  pub within : All (IsNodeWithin nodes text count) nodes
  pub few : length nodes ≤ FIRST_NAME

abbrev pub IsArena : Arena → Type 0
IsArena a = IsArenaOf a.nodes.items a.text.items a.variables

abbrev pub shape_of : Arena → ℕ → Shape
shape_of a = shape_in a.nodes.items a.text.items

-- the tree of a node
abbrev pub node_tree : Arena → ℕ → Tree
node_tree a = label (shape_of a) Variable

-- more nodes and more names, after those that stood there
pub record Grows (old new : Arena) : Type 0 where
  pub nodes : IsPrefix old.nodes.items new.nodes.items
  pub text : IsPrefix old.text.items new.text.items
  pub variables : new.variables ≡ old.variables

-- the node is one of the arena's
abbrev pub IsNodeOf : Arena → ℕ → Type 0
IsNodeOf a k = IsInside a.nodes.items a.variables k

-- the node is one of the arena's that have a link
abbrev pub HasLinkIn : Arena → ℕ → Type 0
HasLinkIn a k = HasLink a.nodes.items a.variables k

-- the nodes of each pair are the arena's
abbrev pub AreNodesOf : Arena → List (ℕ × ℕ) → Type 0
AreNodesOf a pairs = All (λ p. IsNodeOf a p.0 × IsNodeOf a p.1) pairs

-- the node stands for this tree
pub record IsNodeFor (a : Arena) (k : ℕ) (t : Tree) : Type 0 where
  pub inside : IsNodeOf a k
  pub tree : node_tree a k ≡ t

-- the node stands for this tree, and one argument more may follow
pub record IsHeadFor (a : Arena) (k : ℕ) (t : Tree) : Type 0 where
  pub node : IsNodeFor a k t
  pub head : IsHead (shape_of a k)
