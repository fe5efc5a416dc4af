-- Goals one after another, and one more.
use Rattle.std.proofs.Common.{◌≡◌, List, [], ◌∷◌, ◌++◌, refl, subst}
use Rattle.tc_model.specs.Choices.{Choice}
use Rattle.tc_model.specs.Goals.{Scene, Moment, Move, IsStep, Leads, moved}
use Rattle.tc_model.specs.declared.goals.Goal.{Goal}

pub leads_push : (choice : Choice) (scene : Scene) (gs : List Goal) (g : Goal) (m k : Moment) (move : Move)
    → Leads choice scene gs m k → IsStep choice scene g k move → Leads choice scene (gs ++ g ∷ []) m (moved move k)
leads_push choice scene [] g m k move leads step =
    subst (λ (q : Moment). (mv : Move) × IsStep choice scene g q mv × (moved move k ≡ moved mv q)) leads (move, step, refl)
leads_push choice scene (h ∷ gs) g m k move leads step =
    (leads.0, leads.1, leads_push choice scene gs g (moved leads.0 m) k move leads.2 step)
