-- Nodes, and the trees that they stand for once each variable stands for a tree.
use Rattle.std.specs.Prelude.{◌≡◌, ℕ, zero, suc, ◌<◌, ◌⊎◌, List, [], ◌∷◌, ℤ}
use Rattle.tc_term.specs.Tree.{Tree, Variable, Atomic, Number, Compound, Trees, Last, More}

-- the arguments, and then one more
abbrev pub and_last : Trees → Tree → Trees
and_last (Last t) x = More t (Last x)
and_last (More t ts) x = More t (and_last ts x)

-- the term with one argument more, its last
abbrev pub applied : Tree → Tree → Tree
applied (Atomic name) x = Compound name (Last x)
applied (Compound name args) x = Compound name (and_last args x)
applied (Variable n) x = Compound [] (Last x)
applied (Number n) x = Compound [] (Last x)

-- the term with these arguments more, each by its tree
abbrev pub applied_over : {X : Type 0} → (X → Tree) → Tree → List X → Tree
applied_over tree t [] = t
applied_over tree t (x ∷ xs) = applied_over tree (applied t (tree x)) xs

-- what a node is: a variable, an atom, a whole number, or the term of a node with one argument more
pub data Shape : Type 0 where
  VariableNode : ℕ → Shape
  AtomNode : List ℕ → Shape
  NumberNode : ℤ → Shape
  ApplyNode : ℕ → ℕ → Shape

-- the tree of a node, from the trees of the variables and of the nodes that it names
abbrev pub tree_of_node : (ℕ → Tree) → (ℕ → Tree) → Shape → Tree
tree_of_node v F (VariableNode n) = v n
tree_of_node v F (AtomNode name) = Atomic name
tree_of_node v F (NumberNode n) = Number n
tree_of_node v F (ApplyNode head argument) = applied (F head) (F argument)

abbrev pub IsVariable : Shape → Type 0
IsVariable (VariableNode n) = Unit {0}
IsVariable (AtomNode name) = ⊥
IsVariable (NumberNode n) = ⊥
IsVariable (ApplyNode head argument) = ⊥

abbrev pub IsTerm : Shape → Type 0
IsTerm (VariableNode n) = ⊥
IsTerm (AtomNode name) = Unit {0}
IsTerm (NumberNode n) = Unit {0}
IsTerm (ApplyNode head argument) = Unit {0}

-- a node that can have one argument more
abbrev pub IsHead : Shape → Type 0
IsHead (VariableNode n) = ⊥
IsHead (AtomNode name) = Unit {0}
IsHead (NumberNode n) = ⊥
IsHead (ApplyNode head argument) = Unit {0}

abbrev pub IsAtom : Shape → Type 0
IsAtom (VariableNode n) = ⊥
IsAtom (AtomNode name) = Unit {0}
IsAtom (NumberNode n) = ⊥
IsAtom (ApplyNode head argument) = ⊥

-- a node that names no other
abbrev pub IsPlain : Shape → Type 0
IsPlain (VariableNode n) = Unit {0}
IsPlain (AtomNode name) = Unit {0}
IsPlain (NumberNode n) = Unit {0}
IsPlain (ApplyNode head argument) = ⊥

-- the nodes that a node names stand before it or name no other
abbrev pub IsInOrder : (ℕ → Shape) → ℕ → Shape → Type 0
IsInOrder shape k (ApplyNode head argument) =
    IsHead (shape head) × (IsPlain (shape head) ⊎ (head < k))
    × (IsPlain (shape argument) ⊎ (argument < k))
IsInOrder shape k _ = Unit {0}

abbrev pub InOrder : (ℕ → Shape) → Type 0
InOrder shape = (k : ℕ) → IsInOrder shape k (shape k)

-- each node has the tree that its shape says
abbrev pub IsLabelling : (ℕ → Shape) → (ℕ → Tree) → (ℕ → Tree) → Type 0
IsLabelling shape v F = (k : ℕ) → F k ≡ tree_of_node v F (shape k)

-- the tree of a node, to this depth
abbrev pub label_within : ℕ → (ℕ → Shape) → (ℕ → Tree) → ℕ → Tree
label_within zero shape v k = Atomic []
label_within (suc fuel) shape v k = tree_of_node v (label_within fuel shape v) (shape k)

-- the tree of a node where each variable has a tree
unfoldable pub label : (ℕ → Shape) → (ℕ → Tree) → ℕ → Tree
label shape v k = label_within (suc (suc k)) shape v k
