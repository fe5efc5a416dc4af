-- What goals may do where it is recorded which effects they had.
use Rattle.std.specs.Prelude.{◌≡◌, Bool, true, false, if◌then◌else◌, Option, Some, None}
use Rattle.std.specs.Prelude.{List, [], ◌∷◌, ◌++◌}
use mathlib.Core.List.{IsPrefix}
use Rattle.tc_model.specs.Choices.{AnyOne}
use Rattle.tc_model.specs.Goals.{Scene, Moment, Move, Nothing, Equates, Puts, Takes, Reads}
use Rattle.tc_model.specs.Goals.{IsStep, Leads, moved}
use Rattle.tc_model.specs.declared.goals.Goal.{Goal}
use Rattle.tc_model.specs.declared.goals.Goal.TheVariants.{OutR, InR, RdR, NoR, Pre, Post}
use Rattle.tc_model.specs.declared.goals.Goal.TheVariants.{Success, Failure, True, Agent}
use Rattle.tc_model.specs.declared.goals.Goal.TheVariants.{Centre, Operation, Tuple, Equal}
use Rattle.tc_model.specs.declared.goals.Goal.TheVariants.{Differ, Is, Compare}
use Rattle.tc_model.specs.declared.items.Effect.{Effect}
use Rattle.tc_model.specs.declared.items.Effect.TheVariants.{Put, Took, Read}

-- whether a goal that is done has an effect
abbrev pub has_effect : Goal → Bool
has_effect (OutR t) = true
has_effect (InR t) = true
has_effect (RdR t) = true
has_effect (NoR t) = false
has_effect Pre = false
has_effect Post = false
has_effect Success = false
has_effect Failure = false
has_effect True = false
has_effect (Agent t) = false
has_effect (Centre t) = false
has_effect (Operation t) = false
has_effect (Tuple t) = false
has_effect (Equal s t) = false
has_effect (Differ s t) = false
has_effect (Is s t) = false
has_effect (Compare comparison s t) = false

-- the effect that comes next is the move's, if it has one
abbrev pub AgreesWith : Option Effect → Move → Type 0
AgreesWith next Nothing = Unit {0}
AgreesWith next (Equates s t) = Unit {0}
AgreesWith next (Puts tuple) = next ≡ Some (Put tuple)
AgreesWith next (Takes t tuple) = next ≡ Some (Took tuple)
AgreesWith next (Reads t tuple) = next ≡ Some (Read tuple)

-- the effects with one more, where there is one
abbrev pub with_next : Option Effect → List Effect → List Effect
with_next None effects = effects
with_next (Some e) effects = effects ++ e ∷ []

-- the effects after a goal: one that has an effect has had the next
abbrev pub recorded_after : Goal → Option Effect → List Effect → List Effect
recorded_after goal next effects = if has_effect goal then with_next next effects else effects

-- the goal has done a step that agrees with the next effect, and leads here; no other step that
-- agrees leads elsewhere
pub record IsFollowed (scene : Scene) (goal : Goal) (next : Option Effect) (m end : Moment)
    : Type 0 where
  pub move : Move
  pub step : IsStep AnyOne scene goal m move
  pub agrees : AgreesWith next move
  pub leads : end ≡ moved move m
  pub only : (other : Move) → IsStep AnyOne scene goal m other → AgreesWith next other
      → moved other m ≡ moved move m

-- no step of the goal agrees with the next effect
abbrev pub HasNoStep : Scene → Goal → Option Effect → Moment → Type 0
HasNoStep scene goal next m = (move : Move) → IsStep AnyOne scene goal m move
    → AgreesWith next move → ⊥

-- the goals lead from here to there, and to no other end whose effects begin what is recorded
pub record LeadsThere (scene : Scene) (goals : List Goal) (begin end : Moment)
    (recorded : List Effect) : Type 0 where
  pub leads : Leads AnyOne scene goals begin end
  pub only : (other : Moment) → Leads AnyOne scene goals begin other
      → IsPrefix other.effects recorded → other ≡ end

-- they lead to no end with exactly these effects
abbrev pub LeadsNowhere : Scene → List Goal → Moment → List Effect → Type 0
LeadsNowhere scene goals begin recorded = (other : Moment) → Leads AnyOne scene goals begin other
    → other.effects ≡ recorded → ⊥
