-- Marks of a walk, and what they say.
use Rattle.std.specs.Prelude.{◌≡◌, ℕ, ◌+◌, ◌*◌, ◌<◌, ◌⊎◌, List, [], ◌∷◌, length, get_or, All, reverse}
use Rattle.tc_term.specs.Tree.{Tree}
use Rattle.tc_unify.specs.declared.nodes.Arena.{Arena}
use Rattle.tc_unify.specs.declared.links.Links.{Links}
use Rattle.tc_unify.specs.declared.walk.Step.{Step}
use Rattle.tc_unify.specs.declared.walk.Step.TheVariants.{Enter, Leave}
use Rattle.tc_unify.specs.declared.walk.Mark.{Mark}
use Rattle.tc_unify.specs.declared.walk.Mark.TheVariants.{Unseen, Open, Finite}
use Rattle.tc_unify.specs.declared.walk.Walk.{Walk}
use Rattle.tc_unify.specs.Nodes.{label}
use Rattle.tc_unify.specs.Links.{Respects, IsFinite}
use Rattle.tc_unify.specs.Arena.{IsNodeOf, shape_of}
use Rattle.tc_unify.specs.Tables.{link_of}
use Rattle.tc_unify.specs.Walks.{Awaits, Descends, IsBelowAll, IsOpenIn}

-- the mark of a node
abbrev pub mark_of : Walk → ℕ → Mark
mark_of w k = get_or w.marks.items k Unseen

-- the steps, the next one first
abbrev pub steps_of : Walk → List Step
steps_of w = reverse w.steps.items

-- the node stands in the list
abbrev pub IsListed : List ℕ → ℕ → Type 0
IsListed [] k = ⊥
IsListed (n ∷ nodes) k = (k ≡ n) ⊎ IsListed nodes k

-- no node is marked, and nothing is to be done
pub record IsUnmarked (w : Walk) : Type 0 where
  pub marks : All (λ m. m ≡ Unseen) w.marks.items
  pub steps : w.steps.items ≡ []
  pub seen : w.seen.items ≡ []

-- each node that is marked was seen
pub record IsMarked (w : Walk) : Type 0 where
  pub listed : (k : ℕ) → (mark_of w k ≡ Unseen) ⊎ IsListed w.seen.items k
  pub seen : All (λ k. k < length w.marks.items) w.seen.items

-- a node is to be entered, or a term's node that has no link and was seen is to be left
abbrev pub IsStep : Arena → Links → List ℕ → Step → Type 0
IsStep a l seen (Enter k) = IsNodeOf a k
IsStep a l seen (Leave r) = (r < length a.nodes.items) × (link_of l r ≡ r) × IsListed seen r

-- the steps enter what is to be walked for these nodes
pub record IsStarted (a : Arena) (l : Links) (nodes : List ℕ) (steps : List Step) : Type 0 where
  pub awaits :
      Awaits (shape_of a) (link_of l) nodes (IsFinite (shape_of a) (link_of l)) (reverse steps)
  pub descends : (F : ℕ → Tree) → Descends F (reverse steps)
  pub below : (F : ℕ → Tree) (t : Tree) → IsBelowAll F t (reverse steps)
  pub enters : All (IsStep a l []) steps

-- what the marks say is so
pub record Knows (a : Arena) (l : Links) (w : Walk) : Type 0 where
  pub finite : (k : ℕ) → mark_of w k ≡ Finite → IsFinite (shape_of a) (link_of l) k
  pub opened : (k : ℕ) → mark_of w k ≡ Open → IsOpenIn (steps_of w) k
  pub steps : All (IsStep a l w.seen.items) w.steps.items

-- what awaits the steps, and the trees below, are kept
pub record KeepsBelow (a : Arena) (l : Links) (old new : List Step) : Type 0 where
  pub awaits : (for : List ℕ)
      → Awaits (shape_of a) (link_of l) for (IsFinite (shape_of a) (link_of l)) old
      → Awaits (shape_of a) (link_of l) for (IsFinite (shape_of a) (link_of l)) new
  pub descends : (v : ℕ → Tree) → Respects (label (shape_of a) v) (link_of l)
      → Descends (label (shape_of a) v) old
      → Descends (label (shape_of a) v) new

-- no trees respect the links, once the steps are what is to be done
abbrev pub IsEndless : Arena → Links → List Step → Type 0
IsEndless a l steps =
    (v : ℕ → Tree) → Respects (label (shape_of a) v) (link_of l)
    → Descends (label (shape_of a) v) steps → ⊥

-- how many marks are not set
abbrev pub unseen : List Mark → ℕ
unseen [] = 0
unseen (Unseen ∷ marks) = 1 + unseen marks
unseen (Open ∷ marks) = unseen marks
unseen (Finite ∷ marks) = unseen marks

-- the work that is left: a step, or a node that may be entered yet and then leaves three
abbrev pub walk_work : Walk → ℕ
walk_work w = length w.steps.items + 3 * unseen w.marks.items
