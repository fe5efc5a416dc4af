-- How a cascade ends.
use Rattle.std.specs.Prelude.{◌≡◌, ℕ, List, Ok, Err}
use Rattle.std.specs.declared.result.Result.{Result}
use Rattle.tc_model.specs.Choices.{TheFirst}
use Rattle.tc_model.specs.Events.{Occurrence, Setting}
use Rattle.tc_model.specs.Reactions.{Rule}
use Rattle.tc_model.specs.Cascades.{IsWhole, IsOver}
use Rattle.tc_model.specs.Tuples.{after_items}
use Rattle.tc_model.specs.declared.items.Item.{Item}
use Rattle.tc_bag.specs.Stock.{Stock, tuples_of}
use Rattle.tc_cascade.specs.declared.cascade.Cascade.{Cascade}
use Rattle.tc_cascade.specs.declared.cascade.Cascade.TheVariants.{Whole, Over}

abbrev pub items_of : Cascade → List Item
items_of (Whole items) = items
items_of (Over items) = items

-- it is whole within the budget, and the tuples are those after its items;
-- or it goes over the budget
abbrev pub IsEnd :
    List Rule → Setting → ℕ → Occurrence → Stock → Stock → Cascade → Type 0
IsEnd clauses setting budget e old new (Whole items) =
    IsWhole TheFirst clauses setting budget e (tuples_of old.now) items
    × (tuples_of new.now ≡ after_items items (tuples_of old.now))
IsEnd clauses setting budget e old new (Over items) =
    IsOver TheFirst clauses setting budget e (tuples_of old.now) items

-- what is left of a bag that was marked before a cascade: all that the cascade has left, with the
-- marks of before, where it is whole; else the bag of before
abbrev pub kept_or_undone : {E : Type 0} → Result Cascade E → Stock → Stock → Stock
kept_or_undone (Ok (Whole items)) before left = record left { saved = before.saved }
kept_or_undone (Ok (Over items)) before left = before
kept_or_undone (Err fault) before left = before
