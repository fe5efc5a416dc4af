-- A walk over the nodes below some node, which shows that they are finite or finds a node below
-- itself.
use Rattle.std.specs.Prelude.{◌≡◌, ℕ, ◌<◌, ◌⊎◌, List, [], ◌∷◌, All}
use Rattle.tc_term.specs.Tree.{Tree, nodes}
use Rattle.tc_unify.specs.Nodes.{Shape, VariableNode, AtomNode, NumberNode, ApplyNode, IsVariable, label}
use Rattle.tc_unify.specs.Links.{root, Respects}
use Rattle.tc_unify.specs.declared.walk.Step.{Step}
use Rattle.tc_unify.specs.declared.walk.Step.TheVariants.{Enter, Leave}

-- each node that a shape names has a property
abbrev pub NamesAll : (ℕ → Type 0) → Shape → Type 0
NamesAll P (ApplyNode head argument) = P head × P argument
NamesAll P (VariableNode n) = Unit {0}
NamesAll P (AtomNode name) = Unit {0}
NamesAll P (NumberNode n) = Unit {0}

-- where a node is left, the nodes that it names have the property once all that is above is done,
-- and at the end the variables that the walk is for have it
abbrev pub Awaits : (ℕ → Shape) → (ℕ → ℕ) → List ℕ → (ℕ → Type 0) → List Step → Type 0
Awaits shape link for P [] = All (λ k. IsVariable (shape k) → P k) for
Awaits shape link for P (Enter k ∷ steps) = Awaits shape link for (λ j. P j ⊎ (j ≡ k)) steps
Awaits shape link for P (Leave r ∷ steps) =
    NamesAll P (shape r) × Awaits shape link for (λ j. P j ⊎ (root link j ≡ r)) steps

-- each node that is to be left is above this tree
abbrev pub IsBelowAll : (ℕ → Tree) → Tree → List Step → Type 0
IsBelowAll F t [] = Unit {0}
IsBelowAll F t (Enter k ∷ steps) = IsBelowAll F t steps
IsBelowAll F t (Leave r ∷ steps) = (nodes t < nodes (F r)) × IsBelowAll F t steps

-- each node stands below those that are left after it
abbrev pub Descends : (ℕ → Tree) → List Step → Type 0
Descends F [] = Unit {0}
Descends F (Enter k ∷ steps) = IsBelowAll F (F k) steps × Descends F steps
Descends F (Leave r ∷ steps) = IsBelowAll F (F r) steps × Descends F steps

-- the node is to be left
abbrev pub IsOpenIn : List Step → ℕ → Type 0
IsOpenIn [] k = ⊥
IsOpenIn (Enter j ∷ steps) k = IsOpenIn steps k
IsOpenIn (Leave r ∷ steps) k = (r ≡ k) ⊎ IsOpenIn steps k

-- no trees respect the links
abbrev pub HasNoTrees : (ℕ → Shape) → (ℕ → ℕ) → Type 0
HasNoTrees shape link = (v : ℕ → Tree) → Respects (label shape v) link → ⊥
