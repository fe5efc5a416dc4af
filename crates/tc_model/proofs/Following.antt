-- What is recorded fixes the tuples: a body leads to those after its effects, and a cascade to those after its items.
use Rattle.std.proofs.Common.{◌≡◌, List, [], ◌∷◌, ◌++◌, refl, sym, ap, subst, ◌∙◌}
use Rattle.tc_term.specs.Tree.{Tree}
use Rattle.tc_model.specs.Choices.{Choice}
use Rattle.tc_model.specs.Events.{Occurrence, Setting}
use Rattle.tc_model.specs.Reactions.{Rule}
use Rattle.tc_model.specs.Tuples.{after_effect, after_effects, after_items}
use Rattle.tc_model.specs.Goals.{Scene, Moment, Move, Nothing, Equates, Puts, Takes, Reads, moved, Leads}
use Rattle.tc_model.specs.Cascades.{Wave, Cascades, Begins}
use Rattle.tc_model.specs.declared.goals.Goal.{Goal}
use Rattle.tc_model.specs.declared.items.Effect.{Effect}
use Rattle.tc_model.specs.declared.items.Effect.TheVariants.{Put, Took, Read}
use Rattle.tc_model.specs.declared.items.Item.{Item}

after_effects-push : (es : List Effect) (e : Effect) (tuples : List Tree)
    → after_effects (es ++ e ∷ []) tuples ≡ after_effect e (after_effects es tuples)
after_effects-push [] e tuples = refl
after_effects-push (d ∷ es) e tuples = after_effects-push es e (after_effect d tuples)

-- the moment's tuples are those that its effects make of the old ones
abbrev Follows : List Tree → Moment → Type 0
Follows old m = m.tuples ≡ after_effects m.effects old

follows-effect : (old : List Tree) (m : Moment) (e : Effect)
    → Follows old m → after_effect e m.tuples ≡ after_effects (m.effects ++ e ∷ []) old
follows-effect old m e h = ap (after_effect e) h ∙ sym (after_effects-push m.effects e old)

follows-move : (old : List Tree) (move : Move) (m : Moment) → Follows old m → Follows old (moved move m)
follows-move old Nothing m h = h
follows-move old (Equates s t) m h = h
follows-move old (Puts u) m h = follows-effect old m (Put u) h
follows-move old (Takes t u) m h = follows-effect old m (Took u) h
follows-move old (Reads t u) m h = follows-effect old m (Read u) h

follows-leads : (choice : Choice) (scene : Scene) (old : List Tree) (gs : List Goal) (m end : Moment)
    → Leads choice scene gs m end → Follows old m → Follows old end
follows-leads choice scene old [] m end leads h = subst (Follows old) (sym leads) h
follows-leads choice scene old (g ∷ gs) m end leads h =
    follows-leads choice scene old gs (moved leads.0 m) end leads.2 (follows-move old leads.0 m h)

pub body-tuples : (choice : Choice) (scene : Scene) (gs : List Goal) (m end : Moment)
    → m.effects ≡ [] → Leads choice scene gs m end → end.tuples ≡ after_effects end.effects m.tuples
body-tuples choice scene gs m end none leads =
    follows-leads choice scene m.tuples gs m end leads (ap (λ es. after_effects es m.tuples) (sym none))

cascades-tuples : (choice : Choice) (clauses : List Rule) (setting : Setting) (items : List Item) (w end : Wave)
    → Cascades choice clauses setting items w end → end.tuples ≡ after_items items w.tuples
cascades-tuples choice clauses setting [] w end h = ap (λ v. v.tuples) h
cascades-tuples choice clauses setting (i ∷ items) w end h =
    cascades-tuples choice clauses setting items h.0 end h.2 ∙ ap (after_items items) h.1.tuples

pub cascade-tuples : (choice : Choice) (clauses : List Rule) (setting : Setting) (e : Occurrence) (tuples : List Tree)
    (items : List Item) (end : Wave)
    → Begins choice clauses setting e tuples items end → end.tuples ≡ after_items items tuples
cascade-tuples choice clauses setting e tuples items end h =
    cascades-tuples choice clauses setting items (record { tuples = tuples; triggered = h.first }) end h.cascades
