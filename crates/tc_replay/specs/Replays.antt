-- Cascades beside what is recorded of them.
use Rattle.std.specs.Prelude.{◌≡◌, ◌≢◌, ◌≤◌, ℕ, List, [], ◌++◌}
use Rattle.tc_term.specs.Tree.{Tree}
use Rattle.tc_bag.specs.Stock.{Stock, tuples_of}
use Rattle.tc_model.specs.Choices.{AnyOne}
use Rattle.tc_model.specs.Events.{Occurrence, Setting}
use Rattle.tc_model.specs.Reactions.{Rule}
use Rattle.tc_model.specs.Triggers.{Member, Triggers}
use Rattle.tc_model.specs.Cascades.{Wave, IsWhole, IsOver}
use Rattle.tc_model.specs.declared.items.Item.{Item}
use Rattle.tc_replay.specs.declared.cascade.Ending.{Ending}
use Rattle.tc_replay.specs.declared.cascade.Ending.TheVariants.{Whole, Over}

-- by some choice an event's cascade over these tuples has exactly these items, and ends so
abbrev pub IsCascade :
    Ending → List Rule → Setting → ℕ → Occurrence → List Tree → List Item → Type 0
IsCascade Whole = IsWhole AnyOne
IsCascade Over = IsOver AnyOne

-- so many items are within the budget, or spend it
abbrev pub KeepsBudget : Ending → ℕ → ℕ → Type 0
KeepsBudget Whole budget count = count ≤ budget
KeepsBudget Over budget count = count ≡ budget

-- no member is left, or some is
abbrev pub LeavesMembers : Ending → List Member → Type 0
LeavesMembers Whole triggered = triggered ≡ []
LeavesMembers Over triggered = triggered ≢ []

-- the tuples of a bag, and what was triggered over them and is still to be tried
abbrev pub wave_of : Stock → List Member → Wave
wave_of stock triggered = record { tuples = tuples_of stock.now; triggered = triggered }

-- what the events trigger stands behind what was triggered before
pub record Raises (clauses : List Rule) (es : List Occurrence) (old new : List Member)
    : Type 0 where
  pub more : List Member
  pub triggers : Triggers clauses es more
  pub added : new ≡ old ++ more
