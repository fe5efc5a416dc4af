-- How many steps a cascade takes.
use Rattle.std.specs.Prelude.{ℕ, ◌+◌, ◌-◌, List, [], ◌∷◌, slice_get, sum_by}
use Rattle.std.specs.Option.{option_map_or}
use Rattle.tc_term.specs.Tree.{Tree}
use Rattle.tc_model.specs.Events.{Occurrence}
use Rattle.tc_model.specs.Items.{clause_of}
use Rattle.tc_model.specs.Reactions.{Rule}
use Rattle.tc_model.specs.Triggers.{raises}
use Rattle.tc_model.specs.Tuples.{after_item}
use Rattle.tc_model.specs.declared.items.Item.{Item}
use Rattle.tc_spec.specs.Costs.{trigger_steps}
use Rattle.tc_body.specs.Costs.{body_steps}

-- the most steps of an item: those of the body of its clause, if there is such a clause
abbrev pub item_steps : List Rule → Item → List Tree → ℕ
item_steps clauses i tuples =
    option_map_or (λ r. body_steps r i tuples) (slice_get clauses (clause_of i - 1)) 0

-- the most steps of items, one after another: those of each item, and of finding the clauses that
-- its events trigger
abbrev pub items_steps : List Rule → List Item → List Tree → ℕ
items_steps clauses [] tuples = 0
items_steps clauses (i ∷ is) tuples =
    item_steps clauses i tuples + sum_by (trigger_steps clauses) (raises i)
    + items_steps clauses is (after_item i tuples)

-- the most steps of a cascade: those of finding the clauses that its event triggers, and those of
-- its items
abbrev pub cascade_steps : List Rule → Occurrence → List Item → List Tree → ℕ
cascade_steps clauses e is tuples = trigger_steps clauses e + items_steps clauses is tuples
