-- How many steps a cascade takes, item by item.
use Rattle.std.proofs.Common.{◌≡◌, ℕ, ◌+◌, ◌-◌, ◌≤◌, List, [], ◌∷◌, ◌++◌, sym, ap, ◌∙◌, arith}
use Rattle.std.specs.List.{slice_get, sum_by}
use Rattle.std.specs.Option.{option_map_or}
use Rattle.tc_term.specs.Tree.{Tree}
use Rattle.tc_model.specs.Choices.{TheFirst}
use Rattle.tc_model.specs.Events.{Occurrence, Setting}
use Rattle.tc_model.specs.Items.{clause_of}
use Rattle.tc_model.specs.Reactions.{Rule}
use Rattle.tc_model.specs.Triggers.{Member, IsClause, raises}
use Rattle.tc_model.specs.Tuples.{after_item, after_items}
use Rattle.tc_model.specs.declared.items.Item.{Item}
use Rattle.tc_model.proofs.Following.{cascade-tuples}
use Rattle.tc_bag.specs.Stock.{Stock, tuples_of}
use Rattle.tc_spec.specs.Costs.{trigger_steps}
use Rattle.tc_body.specs.Costs.{body_steps}
use Rattle.tc_cascade.specs.Costs.{cascade_steps, item_steps, items_steps}
use Rattle.tc_cascade.specs.Reached.{IsAt}

module _ (clauses : List Rule) where
  items_push : (is : List Item) (i : Item) (tuples : List Tree)
      → items_steps clauses (is ++ i ∷ []) tuples
      ≡ items_steps clauses is tuples + (item_steps clauses i (after_items is tuples) + sum_by (trigger_steps clauses) (raises i))
  items_push [] i tuples = omega arith
  items_push (h ∷ is) i tuples = let more = items_push is i (after_item h tuples) in omega (arith, more)

  item_is : (i : Item) (r : Rule) (number : ℕ) (tuples : List Tree) → IsClause clauses number r → clause_of i ≡ number
      → item_steps clauses i tuples ≡ body_steps r i tuples
  item_is i r number tuples clause names =
      let place : clause_of i - 1 ≡ clause.place = omega (arith, names, clause.at) in
      ap (λ o. option_map_or (λ q. body_steps q i tuples) o 0) (ap (slice_get clauses) place ∙ clause.stands)

  -- what the event triggers
  pub counted_first : (e f : Occurrence) (items : List Item) (tuples : List Tree) (start now : ℕ) → f ≡ e → items ≡ []
      → now ≤ start + trigger_steps clauses f → now ≤ start + cascade_steps clauses e items tuples
  counted_first e f items tuples start now same none most =
      let event = ap (trigger_steps clauses) same in
      let zero_items = ap (λ is. items_steps clauses is tuples) none in
      omega (arith, event, zero_items, most)

  -- one item more, and what its events trigger
  pub counted_next : (e : Occurrence) (is more : List Item) (i : Item) (r : Rule) (number : ℕ) (events : List Occurrence)
      (old now : List Tree) (start before tried after : ℕ) → IsClause clauses number r → clause_of i ≡ number
      → now ≡ after_items is old → events ≡ raises i → more ≡ is ++ i ∷ []
      → before ≤ start + cascade_steps clauses e is old → tried ≤ before + body_steps r i now
      → after ≤ tried + sum_by (trigger_steps clauses) events → after ≤ start + cascade_steps clauses e more old
  counted_next e is more i r number events old now start before tried after clause names there raised pushed h body found =
      let all = ap (λ js. items_steps clauses js old) pushed ∙ items_push is i old in
      let one = ap (item_steps clauses i) (sym there) ∙ item_is i r number now clause names in
      let events_are = ap (sum_by (trigger_steps clauses)) raised in
      omega (arith, all, one, events_are, h, body, found)

  -- the tuples are those after the items so far
  pub at_tuples : (setting : Setting) (e : Occurrence) (old new : Stock) (items : List Item) (kept : List Member) (room : ℕ)
      → IsAt clauses setting e old new items kept room → tuples_of new.now ≡ after_items items (tuples_of old.now)
  at_tuples setting e old new items kept room at =
      sym at.tuples ∙ cascade-tuples TheFirst clauses setting e (tuples_of old.now) items at.wave at.begins
