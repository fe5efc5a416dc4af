-- Bodies beside what is recorded of them.
use Rattle.std.proofs.Common.{◌≡◌, ◌<◌, Bool, false, IsTrue, Ok, Err, IfOk, Result, get_or, ℕ, zero, suc, ◌+◌, ◌≤◌, List, [], ◌∷◌, take, length, Some, refl, sym, ap, subst, ◌∙◌, arith}
use Rattle.std.specs.List.{slice_get}
use Rattle.std.proofs.lemmas.Option.{same_Some, slice_get_within, slice_get_read}
use mathlib.Core.List.{IsPrefix}
use Rattle.tc_lists.proofs.Prefixes.{IsPrefix-whole}
use Rattle.tc_term.specs.Tree.{Tree}
use Rattle.tc_term.specs.Variables.{raised, var_bound}
use Rattle.tc_term.specs.Equations.{Equations, Solvable}
use Rattle.tc_unify.specs.Met.{met}
use Rattle.tc_model.specs.Choices.{AnyOne}
use Rattle.tc_model.specs.Events.{Occurrence, Setting}
use Rattle.tc_model.specs.Reactions.{Rule}
use Rattle.tc_model.specs.Goals.{Scene, Moment, Leads, IsStuck}
use Rattle.tc_model.specs.Tuples.{after_effects}
use Rattle.tc_model.specs.Bodies.{scene_of, beginning, IsFired, IsFailed}
use Rattle.tc_model.specs.declared.goals.Goal.{Goal}
use Rattle.tc_model.specs.declared.items.Effect.{Effect}
use Rattle.tc_model.proofs.Following.{body-tuples}
use Rattle.tc_goals.specs.Moments.{moment, scene}
use Rattle.tc_replay.specs.Following.{LeadsThere, LeadsNowhere}

module _ (r : Rule) (e : Occurrence) (setting : Setting) (tuples : List Tree) where
  abbrev here : Scene
  here = scene_of r e setting

  -- head and event are met
  abbrev pub Met : Moment → Type 0
  Met begin = begin ≡ beginning r e tuples

  pub begun_met : (q : Equations) → q ≡ met r.vars r.head e.term → Met (moment q tuples [])
  begun_met q is = ap (λ (p : Equations). moment p tuples []) is

  -- head and event can't be made equal
  abbrev pub Apart : Type 0
  Apart = Solvable (r.vars + var_bound e.term) ((r.head, raised r.vars e.term) ∷ []) → ⊥

  apart_leads : (gs : List Goal) (end : Moment) → Apart → 1 ≤ length gs → Leads AnyOne here gs (beginning r e tuples) end → ⊥
  apart_leads [] end apart some leads = omega (arith, some)
  apart_leads (g ∷ gs) end apart some leads = apart leads.1.before

  module _ (begin end : Moment) (effects : List Effect) (is : Met begin) where
    from_beginning : (gs : List Goal) (m : Moment) → Leads AnyOne here gs begin m → Leads AnyOne here gs (beginning r e tuples) m
    from_beginning gs m leads = subst (λ (q : Moment). Leads AnyOne here gs q m) is leads

    to_begin : (gs : List Goal) (m : Moment) → Leads AnyOne here gs (beginning r e tuples) m → Leads AnyOne here gs begin m
    to_begin gs m leads = subst (λ (q : Moment). Leads AnyOne here gs q m) (sym is) leads

    pub fired : LeadsThere here r.goals begin end effects → end.effects ≡ effects → IsFired AnyOne r e setting tuples effects
    fired there recorded = record { end = end; leads = from_beginning r.goals end there.leads; recorded = recorded }

    pub fired_tuples : LeadsThere here r.goals begin end effects → end.effects ≡ effects → end.tuples ≡ after_effects effects tuples
    fired_tuples there recorded =
        body-tuples AnyOne here r.goals (beginning r e tuples) end refl (from_beginning r.goals end there.leads)
        ∙ ap (λ es. after_effects es tuples) recorded

    pub not_fired : LeadsNowhere here r.goals begin effects → IsFired AnyOne r e setting tuples effects → ⊥
    not_fired nowhere fires = nowhere fires.end (to_begin r.goals fires.end fires.leads) fires.recorded

    module _ (place number : ℕ) (at : number ≡ place + 1) where
      pub failed : (g : Goal) → slice_get r.goals place ≡ Some g → LeadsThere here (take place r.goals) begin end effects → end.effects ≡ effects
          → IsStuck here g end → IsFailed AnyOne r e setting tuples number effects
      failed g stands there recorded stuck = record {
        place = place;
        at = at;
        goal = g;
        stands = stands;
        end = end;
        leads = from_beginning (take place r.goals) end there.leads;
        recorded = recorded;
        stuck = stuck;
      }

      same_place : (p : ℕ) → number ≡ p + 1 → p ≡ place
      same_place p other = omega (arith, at, other)

      pub not_failed_before : LeadsNowhere here (take place r.goals) begin effects → IsFailed AnyOne r e setting tuples number effects → ⊥
      not_failed_before nowhere fails =
          nowhere fails.end
          (to_begin (take place r.goals) fails.end
          (subst (λ p. Leads AnyOne here (take p r.goals) (beginning r e tuples) fails.end) (same_place fails.place fails.at) fails.leads))
          fails.recorded

      pub not_failed_there : (g : Goal) → slice_get r.goals place ≡ Some g → LeadsThere here (take place r.goals) begin end effects
          → (IsStuck here g end → ⊥) → IsFailed AnyOne r e setting tuples number effects → ⊥
      not_failed_there g stands there moves fails =
          let same = same_place fails.place fails.at in
          let one : fails.goal ≡ g =
          same_Some fails.goal g (sym fails.stands ∙ ap (slice_get r.goals) same ∙ stands) in
          let whole : IsPrefix fails.end.effects effects = subst (λ es. IsPrefix es effects) (sym fails.recorded) (IsPrefix-whole effects) in
          let ends : fails.end ≡ end =
          there.only fails.end
          (to_begin (take place r.goals) fails.end
          (subst (λ p. Leads AnyOne here (take p r.goals) (beginning r e tuples) fails.end) same fails.leads))
          whole in
          moves (subst (λ h. IsStuck here h end) one (subst (λ m. IsStuck here fails.goal m) ends fails.stuck))

  -- a number of no goal
  pub not_failed_outside : (number : ℕ) (effects : List Effect) → (1 ≤ number → number ≤ length r.goals → ⊥)
      → IsFailed AnyOne r e setting tuples number effects → ⊥
  not_failed_outside number effects outside fails =
      outside (omega (arith, fails.at)) (omega (arith, fails.at, slice_get_within r.goals fails.place fails.goal fails.stands))

  -- where head and event can't be made equal, the first goal fails, and nothing else happens
  module _ (apart : Apart) (some : 1 ≤ length r.goals) where
    pub apart_fired : (effects : List Effect) → IsFired AnyOne r e setting tuples effects → ⊥
    apart_fired effects fires = apart_leads r.goals fires.end apart some fires.leads

    first_goal : (gs : List Goal) → 1 ≤ length gs → (g : Goal) × (slice_get gs 0 ≡ Some g)
    first_goal [] more = absurd (omega (arith, more))
    first_goal (g ∷ gs) more = (g, refl)

    pub apart_failed : (number : ℕ) (effects : List Effect) → number ≡ 1 → effects ≡ [] → IsFailed AnyOne r e setting tuples number effects
    apart_failed number effects one none =
        let g = first_goal r.goals some in
        record {
          place = 0;
          at = one;
          goal = g.0;
          stands = g.1;
          end = beginning r e tuples;
          leads = refl;
          recorded = sym none;
          stuck = λ move step. apart step.before;
        }

    pub apart_only : (number : ℕ) (effects : List Effect) → IsFailed AnyOne r e setting tuples number effects → (number ≡ 1) × (effects ≡ [])
    apart_only number effects fails = by fails.place refl r.goals fails.leads some
      where
        by : (p : ℕ) → fails.place ≡ p → (gs : List Goal) → Leads AnyOne here (take fails.place gs) (beginning r e tuples) fails.end → 1 ≤ length gs
            → (number ≡ 1) × (effects ≡ [])
        by p is [] leads more = absurd (omega (arith, more))
        by zero is (g ∷ gs) leads more =
            let none : fails.end ≡ beginning r e tuples =
            subst (λ k. Leads AnyOne here (take k (g ∷ gs)) (beginning r e tuples) fails.end) is leads in
            (omega (arith, fails.at, is), sym fails.recorded ∙ ap (λ (m : Moment). m.effects) none)
        by (suc p) is (g ∷ gs) leads more =
            let led : Leads AnyOne here (g ∷ take p gs) (beginning r e tuples) fails.end =
            subst (λ k. Leads AnyOne here (take k (g ∷ gs)) (beginning r e tuples) fails.end) is leads in
            absurd (apart led.1.before)

  -- the same of what the program has read, and of the answers of calls, which may be want of memory
  weaker : {F : Type 0} (C : Bool → Type 0) (P Q : Type 0) (res : Result Bool F) → (P → Q) → IfOk res (λ y. C y → P) → IfOk res (λ y. C y → Q)
  weaker C P Q (Ok y) f h = λ is. f (h is)
  weaker C P Q (Err fault) f h = h

  module _ (n : ℕ) (gs : List Goal) (begin : Moment) (effects : List Effect) (is : Met begin) (en : n ≡ r.vars) (eg : gs ≡ r.goals) where
    abbrev Near : Scene
    Near = scene n e setting

    moved_there : (f : List Goal → List Goal) (end : Moment) → LeadsThere Near (f gs) begin end effects → LeadsThere here (f r.goals) begin end effects
    moved_there f end there =
        subst (λ k. LeadsThere (scene k e setting) (f r.goals) begin end effects) en
        (subst (λ hs. LeadsThere Near (f hs) begin end effects) eg there)

    moved_nowhere : (f : List Goal → List Goal) → LeadsNowhere Near (f gs) begin effects → LeadsNowhere here (f r.goals) begin effects
    moved_nowhere f nowhere =
        subst (λ k. LeadsNowhere (scene k e setting) (f r.goals) begin effects) en
        (subst (λ hs. LeadsNowhere Near (f hs) begin effects) eg nowhere)

    pub fires_yes : {F : Type 0} (end : Moment) (res : Result Bool F) → end.effects ≡ effects
        → IfOk res (λ y. IsTrue y → LeadsThere Near gs begin end effects) → IfOk res (λ y. IsTrue y → IsFired AnyOne r e setting tuples effects)
    fires_yes end res recorded h =
        weaker IsTrue (LeadsThere Near gs begin end effects) (IsFired AnyOne r e setting tuples effects) res
        (λ there. fired begin end effects is (moved_there (λ hs. hs) end there) recorded) h

    pub fires_tuples : {F : Type 0} (end : Moment) (res : Result Bool F) → end.effects ≡ effects
        → IfOk res (λ y. IsTrue y → LeadsThere Near gs begin end effects) → IfOk res (λ y. IsTrue y → end.tuples ≡ after_effects effects tuples)
    fires_tuples end res recorded h =
        weaker IsTrue (LeadsThere Near gs begin end effects) (end.tuples ≡ after_effects effects tuples) res
        (λ there. fired_tuples begin end effects is (moved_there (λ hs. hs) end there) recorded) h

    pub fires_no : {F : Type 0} (res : Result Bool F) → IfOk res (λ y. y ≡ false → LeadsNowhere Near gs begin effects)
        → IfOk res (λ y. y ≡ false → IsFired AnyOne r e setting tuples effects → ⊥)
    fires_no res h =
        weaker (λ y. y ≡ false) (LeadsNowhere Near gs begin effects) (IsFired AnyOne r e setting tuples effects → ⊥) res
        (λ nowhere. not_fired begin begin effects is (moved_nowhere (λ hs. hs) nowhere)) h

    module _ (place number : ℕ) (at : number ≡ place + 1) where
      pub fails_before : LeadsNowhere Near (take place gs) begin effects → IsFailed AnyOne r e setting tuples number effects → ⊥
      fails_before nowhere = not_failed_before begin begin effects is place number at (moved_nowhere (take place) nowhere)

      module _ (g : Goal) (q : Equations) (us : List Tree) (inside : place < length gs) (stands : g ≡ get_or gs place g)
          (there : LeadsThere Near (take place gs) begin (moment q us effects) effects) where
        found : slice_get r.goals place ≡ Some g
        found = subst (λ hs. slice_get hs place ≡ Some g) eg (slice_get_read gs (length gs) place g refl inside stands)

        at_here : (k : ℕ) → k ≡ r.vars → IsStuck (scene k e setting) g (moment q us effects) → IsStuck here g (moment q us effects)
        at_here k ek stuck = subst (λ j. IsStuck (scene j e setting) g (moment q us effects)) ek stuck

        at_near : (k : ℕ) → k ≡ r.vars → IsStuck here g (moment q us effects) → IsStuck (scene k e setting) g (moment q us effects)
        at_near k ek stuck = subst (λ j. IsStuck (scene j e setting) g (moment q us effects)) (sym ek) stuck

        pub fails_yes : {F : Type 0} (res : Result Bool F) → IfOk res (λ y. IsTrue y → (es : List Effect) → IsStuck Near g (moment q us es))
            → IfOk res (λ y. IsTrue y → IsFailed AnyOne r e setting tuples number effects)
        fails_yes res h =
            weaker IsTrue ((es : List Effect) → IsStuck Near g (moment q us es)) (IsFailed AnyOne r e setting tuples number effects) res
            (λ stuck. failed begin (moment q us effects) effects is place number at g found (moved_there (take place) (moment q us effects) there) refl
            (at_here n en (stuck effects))) h

        pub fails_no : {F : Type 0} (res : Result Bool F) → IfOk res (λ y. y ≡ false → (es : List Effect) → IsStuck Near g (moment q us es) → ⊥)
            → IfOk res (λ y. y ≡ false → IsFailed AnyOne r e setting tuples number effects → ⊥)
        fails_no res h =
            weaker (λ y. y ≡ false) ((es : List Effect) → IsStuck Near g (moment q us es) → ⊥) (IsFailed AnyOne r e setting tuples number effects → ⊥) res
            (λ moves. not_failed_there begin (moment q us effects) effects is place number at g found
            (moved_there (take place) (moment q us effects) there) (λ stuck. moves effects (at_near n en stuck))) h
