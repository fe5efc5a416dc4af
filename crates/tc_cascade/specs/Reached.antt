-- How far a cascade has come.
use Rattle.std.specs.Prelude.{◌≡◌, ℕ, All, List, take}
use Rattle.tc_model.specs.Choices.{TheFirst}
use Rattle.tc_model.specs.Events.{Occurrence, Setting}
use Rattle.tc_model.specs.Reactions.{Rule}
use Rattle.tc_model.specs.Triggers.{Member}
use Rattle.tc_model.specs.Cascades.{Wave, Begins}
use Rattle.tc_model.specs.declared.items.Item.{Item}
use Rattle.tc_bag.specs.Stock.{Stock, tuples_of}
use Rattle.tc_cascade.specs.Adding.{Stands}

-- a cascade has come to these items; of the triggered reactions that are left so many are kept
-- as there is room for
pub record IsAt (clauses : List Rule) (setting : Setting) (e : Occurrence) (old new : Stock)
    (items : List Item) (kept : List Member) (room : ℕ) : Type 0 where
  pub wave : Wave
  pub begins : Begins TheFirst clauses setting e (tuples_of old.now) items wave
  pub tuples : wave.tuples ≡ tuples_of new.now
  pub stand : All (λ m. Stands clauses m.clause) wave.triggered
  pub front : kept ≡ take room wave.triggered
