-- What becomes of the tuples of a centre, which stand oldest first.
use Rattle.std.specs.Prelude.{if◌then◌else◌, List, [], ◌∷◌, ◌++◌}
use Rattle.tc_term.specs.Tree.{Tree}
use Rattle.tc_term.specs.Same.{same_tree}
use Rattle.tc_model.specs.declared.items.Effect.{Effect}
use Rattle.tc_model.specs.declared.items.Effect.TheVariants.{Put, Took, Read}
use Rattle.tc_model.specs.declared.items.Item.{Item}
use Rattle.tc_model.specs.declared.items.Item.TheVariants.{Fired, Failed}

-- the list without the first tuple that is equal to this one
abbrev pub without_first : Tree → List Tree → List Tree
without_first tuple [] = []
without_first tuple (t ∷ ts) = if same_tree t tuple then ts else t ∷ without_first tuple ts

-- the tuples after an effect of a reaction
abbrev pub after_effect : Effect → List Tree → List Tree
after_effect (Put tuple) tuples = tuples ++ tuple ∷ []
after_effect (Took tuple) tuples = without_first tuple tuples
after_effect (Read tuple) tuples = tuples

-- the tuples after effects, one after another
abbrev pub after_effects : List Effect → List Tree → List Tree
after_effects [] tuples = tuples
after_effects (e ∷ es) tuples = after_effects es (after_effect e tuples)

-- the tuples after a reaction: one that has failed leaves no effect
abbrev pub after_item : Item → List Tree → List Tree
after_item (Fired pick clause effects) tuples = after_effects effects tuples
after_item (Failed pick clause goal effects) tuples = tuples

-- the tuples after reactions, one after another
abbrev pub after_items : List Item → List Tree → List Tree
after_items [] tuples = tuples
after_items (i ∷ is) tuples = after_items is (after_item i tuples)
