-- Which terms are written as rules, and what is wrong with the others.
use Rattle.std.specs.Prelude.{◌≡◌, ◌<◌, ◌≤◌, ℕ, if◌then◌else◌, List, []}
use Rattle.std.specs.Prelude.{◌∷◌, ◌++◌, All, length, map, codes}
use Rattle.std.specs.Str.{bytes_eq}
use Rattle.tc_term.specs.Tree.{Tree, Atomic, Compound, Last, More}
use Rattle.tc_term.specs.Readable.{IsReadable}
use Rattle.tc_model.specs.Events.{op_name}
use Rattle.tc_model.specs.Reactions.{Rule, IsRule, of_one, of_two, of_three, test_term, goal_term}
use Rattle.tc_model.specs.Reactions.{clause_term}
use Rattle.tc_model.specs.declared.limits.TheConstants.{MOST_GOALS, MOST_TESTS}
use Rattle.tc_model.specs.declared.events.EventOp.{EventOp}
use Rattle.tc_model.specs.declared.faults.SpecCause.{SpecCause}
use Rattle.tc_model.specs.declared.faults.SpecCause.TheVariants as cause
use Rattle.tc_model.specs.declared.goals.Goal.{Goal}
use Rattle.tc_model.specs.declared.reactions.Form.{Form}
use Rattle.tc_model.specs.declared.reactions.Form.TheVariants.{Two, Three}
use Rattle.tc_model.specs.declared.reactions.GuardTest.{GuardTest}

-- the term is a compound of this name and these two arguments, or none of this name and any two
abbrev pub IsTwo : List ℕ → Tree → Tree → Tree → Type 0
IsTwo name t s u = t ≡ of_two name s u

abbrev pub IsNoTwo : List ℕ → Tree → Type 0
IsNoTwo name t = (s u : Tree) → IsTwo name t s u → ⊥

-- the term is a compound of this name and these three arguments, or none of this name and any three
abbrev pub IsThree : List ℕ → Tree → Tree → Tree → Tree → Type 0
IsThree name t s u v = t ≡ of_three name s u v

abbrev pub IsNoThree : List ℕ → Tree → Type 0
IsNoThree name t = (s u v : Tree) → IsThree name t s u v → ⊥

-- the term is a head of this operation on this term, or none of any
abbrev pub IsHead : Tree → EventOp → Tree → Type 0
IsHead t o a = t ≡ of_one (op_name o) a

abbrev pub IsNoHead : Tree → Type 0
IsNoHead t = (o : EventOp) (a : Tree) → IsHead t o a → ⊥

-- the term is a goal's in a clause of this form
abbrev pub IsGoalTerm : Form → Tree → Type 0
IsGoalTerm f t = (g : Goal) × (goal_term f g ≡ t)

-- the leaves of a body under commas, left to right
abbrev pub leaves : Tree → List Tree
leaves (Compound name (More s (Last u))) =
    if bytes_eq name (codes ",") then leaves s ++ leaves u
    else Compound name (More s (Last u)) ∷ []
leaves t = t ∷ []

-- terms with commas between, nested to the right; of none, any term
abbrev pub nested : List Tree → Tree
nested [] = Atomic []
nested (t ∷ []) = t
nested (t ∷ u ∷ us) = of_two (codes ",") t (nested (u ∷ us))

-- the term is a guard of these tests: `true` of none, else their atoms under commas, left to right,
-- 16 at most
abbrev pub IsGuardOf : Tree → List GuardTest → Type 0
IsGuardOf g [] = g ≡ Atomic (codes "true")
IsGuardOf g (t ∷ ts) =
    (leaves g ≡ map test_term (t ∷ ts)) × (length (t ∷ ts) ≤ MOST_TESTS)

-- the term is shaped as a clause of this form, with this head, guard and body
abbrev pub IsShaped : Tree → Form → Tree → List GuardTest → Tree → Type 0
IsShaped t Two head guard body = IsTwo (codes "reaction") t head body × (guard ≡ [])
IsShaped t Three head guard body =
    (g : Tree) × IsThree (codes "reaction") t head g body × IsGuardOf g guard

-- it is so of no form, head, guard and body
abbrev pub IsNotShaped : Tree → Type 0
IsNotShaped t =
    (f : Form) (head : Tree) (guard : List GuardTest) (body : Tree)
    → IsShaped t f head guard body → ⊥

-- the term is shaped as a clause of the rule's head, its guard and its goals, however guard and
-- body are nested
pub record SpellsRule (t : Tree) (r : Rule) : Type 0 where
  pub body : Tree
  pub parts : IsShaped t r.form (of_one (op_name r.op) r.head) r.guard body
  pub goals : leaves body ≡ map (goal_term r.form) r.goals

-- the term is written as the rule: it spells it, and it is one, which is few enough goals and a
-- clause that can be read back
pub record IsWrittenAs (t : Tree) (r : Rule) : Type 0 where
  pub spells : SpellsRule t r
  pub rule : IsRule r

-- the term is shaped as a clause, of which the head is none
pub record HasBadHead (t : Tree) : Type 0 where
  pub form : Form
  pub head : Tree
  pub guard : List GuardTest
  pub body : Tree
  pub shaped : IsShaped t form head guard body
  pub none : IsNoHead head

-- the term is shaped as a clause with a head, and not all leaves of its body are goals of its form
pub record HasBadGoal (t : Tree) : Type 0 where
  pub form : Form
  pub op : EventOp
  pub term : Tree
  pub guard : List GuardTest
  pub body : Tree
  pub shaped : IsShaped t form (of_one (op_name op) term) guard body
  pub bad : All (IsGoalTerm form) (leaves body) → ⊥

-- the first cause for which a term is no reaction, in the order of shape, head, goal, count, size
abbrev pub IsCausedBy : Tree → SpecCause → Type 0
IsCausedBy t cause.Syntax = ⊥
IsCausedBy t cause.Shape = IsNotShaped t
IsCausedBy t cause.Head = HasBadHead t
IsCausedBy t cause.Goal = HasBadGoal t
IsCausedBy t cause.Count = (r : Rule) × SpellsRule t r × (MOST_GOALS < length r.goals)
IsCausedBy t cause.Size =
    (r : Rule) × SpellsRule t r × (length r.goals ≤ MOST_GOALS)
    × (IsReadable (clause_term r) → ⊥)
