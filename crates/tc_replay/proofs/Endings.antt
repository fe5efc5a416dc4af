-- How a cascade ends, by the items that begin it.
use Rattle.std.proofs.Common.{◌≡◌, ◌≢◌, ◌↔◌, false, IsTrue, ℕ, List, [], length, sym, subst}
use Rattle.std.proofs.lemmas.Bool.{true≢false}
use Rattle.tc_term.specs.Tree.{Tree}
use Rattle.tc_model.specs.Choices.{AnyOne}
use Rattle.tc_model.specs.Events.{Occurrence, Setting}
use Rattle.tc_model.specs.Reactions.{Rule}
use Rattle.tc_model.specs.Cascades.{Wave, Begins}
use Rattle.tc_model.specs.declared.items.Item.{Item}
use Rattle.tc_replay.specs.declared.cascade.Ending.{Ending}
use Rattle.tc_replay.specs.declared.cascade.Ending.TheVariants.{Whole, Over}
use Rattle.tc_replay.specs.Replays.{IsCascade, KeepsBudget, LeavesMembers}
use Rattle.tc_replay.proofs.Cascading.{begins-same}

-- an answer that says no
pub never-true : (P : Type 0) → (P → ⊥) → (IsTrue false ↔ P)
never-true P none = (λ is. absurd (true≢false (sym is)), λ p. absurd (none p))

module _ (clauses : List Rule) (setting : Setting) (budget : ℕ) (e : Occurrence) (tuples : List Tree) (items : List Item) where
  pub ends : (ending : Ending) (w : Wave) → Begins AnyOne clauses setting e tuples items w
      → KeepsBudget ending budget (length items) → LeavesMembers ending w.triggered
      → IsCascade ending clauses setting budget e tuples items
  ends Whole w begins keeps leaves = record { end = w; begins = begins; within = keeps; done = leaves }
  ends Over w begins keeps leaves = record { end = w; begins = begins; spent = keeps; left = leaves }

  pub keeps : (ending : Ending) → IsCascade ending clauses setting budget e tuples items → KeepsBudget ending budget (length items)
  keeps Whole c = c.within
  keeps Over c = c.spent

  pub begins : (ending : Ending) → IsCascade ending clauses setting budget e tuples items
      → (end : Wave) × Begins AnyOne clauses setting e tuples items end
  begins Whole c = (c.end, c.begins)
  begins Over c = (c.end, c.begins)

  pub leaves : (ending : Ending) (w : Wave) → Begins AnyOne clauses setting e tuples items w
      → IsCascade ending clauses setting budget e tuples items → LeavesMembers ending w.triggered
  leaves Whole w b c =
      subst (λ (q : Wave). q.triggered ≡ []) (begins-same clauses AnyOne setting e tuples items c.end w c.begins b) c.done
  leaves Over w b c =
      subst (λ (q : Wave). q.triggered ≢ []) (begins-same clauses AnyOne setting e tuples items c.end w c.begins b) c.left
