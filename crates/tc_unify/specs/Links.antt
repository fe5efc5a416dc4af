-- Links from a node to another that stands for the same tree, or to itself.
use Rattle.std.specs.Prelude.{◌≡◌, ℕ, zero, suc, ◌<◌, ◌⊎◌, List, ◌==◌, if◌then◌else◌, All}
use Rattle.tc_term.specs.Tree.{Tree}
use Rattle.tc_unify.specs.Nodes.{Shape, ApplyNode, tree_of_node, IsPlain, IsTerm, IsVariable}

-- each link goes to the node itself or to a lower one
abbrev pub Falls : (ℕ → ℕ) → Type 0
Falls link = (k : ℕ) → (link k ≡ k) ⊎ (link k < k)

-- what so many links lead to
abbrev pub followed : ℕ → (ℕ → ℕ) → ℕ → ℕ
followed zero link k = k
followed (suc fuel) link k = followed fuel link (link k)

-- where the links from a node end
unfoldable pub root : (ℕ → ℕ) → ℕ → ℕ
root link k = followed k link k

-- the links with one more, from a to b
abbrev pub linked : (ℕ → ℕ) → ℕ → ℕ → ℕ → ℕ
linked link a b k = if k == a then b else link k

-- linked nodes have the same tree
abbrev pub Respects : (ℕ → Tree) → (ℕ → ℕ) → Type 0
Respects F link = (k : ℕ) → F k ≡ F (link k)

-- the shapes of linked nodes give the same tree
abbrev pub LinkedAlike : (ℕ → Shape) → (ℕ → ℕ) → (ℕ → Tree) → Type 0
LinkedAlike shape link F =
    (v : ℕ → Tree) (k : ℕ) → IsTerm (shape k)
    → tree_of_node v F (shape k) ≡ tree_of_node v F (shape (link k))

-- the two nodes of each pair have the same tree
abbrev pub Holds : (ℕ → Tree) → List (ℕ × ℕ) → Type 0
Holds F pairs = All (λ p. F p.0 ≡ F p.1) pairs

-- the node stands for a finite tree, once links are followed
pub data IsFinite (shape : ℕ → Shape) (link : ℕ → ℕ) : ℕ → Type 0 where
  plain : (k : ℕ) → IsPlain (shape (root link k)) → IsFinite shape link k
  made : (k head argument : ℕ)
      → shape (root link k) ≡ ApplyNode head argument
      → IsFinite shape link head
      → IsFinite shape link argument
      → IsFinite shape link k

-- the node stands for a finite tree, if it is a variable
abbrev pub IsFiniteVariable : (ℕ → Shape) → (ℕ → ℕ) → ℕ → Type 0
IsFiniteVariable shape link k = IsVariable (shape k) → IsFinite shape link k
