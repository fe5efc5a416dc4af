-- Values: what every solution makes of a node or of a term, and the room that it takes.
use Rattle.std.specs.Prelude.{◌≡◌, ℕ, List, All, reverse, Option, IfSome, IfNone}
use Rattle.tc_term.specs.declared.terms.Term.{Term}
use Rattle.tc_term.specs.Equations.{at, under}
use Rattle.tc_term.specs.Tree.{Tree}
use Rattle.tc_term.specs.declared.limits.Room.{Room}
use Rattle.tc_term.specs.Room.{IsWithin, TakesRoom}
use Rattle.tc_term.specs.TreeView.{tree_of}
use Rattle.tc_term.specs.Variables.{raised}
use Rattle.tc_unify.specs.declared.nodes.Arena.{Arena}
use Rattle.tc_unify.specs.declared.links.Links.{Links}
use Rattle.tc_unify.specs.declared.nodes.Spine.{Spine}
use Rattle.tc_unify.specs.Nodes.{IsAtom, applied_over, label}
use Rattle.tc_unify.specs.Links.{Respects, LinkedAlike}
use Rattle.tc_unify.specs.Solutions.{IsSolution}
use Rattle.tc_unify.specs.Arena.{IsNodeOf, shape_of}
use Rattle.tc_unify.specs.Tables.{link_of}
use Rattle.tc_unify.specs.Meeting.{IsLinked}

-- links that have a solution, and whose linked nodes are alike
pub record AreSolved (a : Arena) (l : Links) : Type 0 where
  pub linked : IsLinked a l
  pub alike : (F : ℕ → Tree) → Respects F (link_of l) → LinkedAlike (shape_of a) (link_of l) F
  pub solution : List Tree
  pub solves : IsSolution a.variables (shape_of a) (link_of l) solution

-- every solution of the links makes this tree of it
abbrev pub IsFixed : Arena → Links → (List Tree → Tree) → Tree → Type 0
IsFixed a l V t =
    (v : List Tree) → IsSolution a.variables (shape_of a) (link_of l) v → V v ≡ t

-- what a valuation makes of a node
abbrev pub of_node : Arena → ℕ → List Tree → Tree
of_node a k v = label (shape_of a) (at v) k

-- what a valuation makes of a term whose variables are raised
abbrev pub of_term : ℕ → Term → List Tree → Tree
of_term shift t v = under v (raised shift (tree_of t))

-- the value is the term that was found, which has spent room, or there is none within the room
pub record IsValue
    (a : Arena) (l : Links) (V : List Tree → Tree)
    (limit : ℕ) (room left : Room) (found : Option Term) : Type 0 where
  pub value : IfSome found
      (λ t. IsFixed a l V (tree_of t) × TakesRoom (tree_of t) limit room left)
  pub none : IfNone found ((t : Tree) → IsFixed a l V t → IsWithin t limit room → ⊥)

-- the atom and the arguments of a node, the last argument first
pub record IsSpineOf (a : Arena) (k : ℕ) (spine : Spine) : Type 0 where
  pub atom : IsNodeOf a spine.atom
  pub plain : IsAtom (shape_of a spine.atom)
  pub arguments : All (IsNodeOf a) spine.arguments.items
  pub tree : (v : ℕ → Tree) → label (shape_of a) v k
      ≡ applied_over (label (shape_of a) v) (label (shape_of a) v spine.atom)
      (reverse spine.arguments.items)
