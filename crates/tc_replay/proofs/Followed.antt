-- Goals that were followed one after another.
use Rattle.std.proofs.Common.{◌≡◌, ℕ, Bool, true, false, cond, zero, suc, get_or, take_all, ◌+◌, ◌≤◌, ◌<◌, ◌≢◌, List, [], ◌∷◌, ◌++◌, take, drop, length, Option, Some, refl, sym, ap, subst, ◌∙◌, arith}
use Rattle.std.specs.List.{slice_get}
use Rattle.std.proofs.lemmas.Bool.{true≢false}
use Rattle.std.proofs.Common.{length-take}
use Rattle.std.proofs.lemmas.Option.{slice_get_within, get_or_from_slice_get}
use Rattle.tc_lists.proofs.Parts.{take_read, split_read}
use mathlib.Core.List.{IsPrefix}
use Rattle.tc_lists.proofs.Prefixes.{IsPrefix-whole, IsPrefix-append, IsPrefix-trans}
use Rattle.tc_term.specs.Tree.{Tree}
use Rattle.tc_term.specs.Equations.{Equations}
use Rattle.tc_model.specs.Choices.{Choice, AnyOne}
use Rattle.tc_model.specs.Goals.{Scene, Moment, Move, Nothing, Equates, Puts, Takes, Reads, Leads, moved}
use Rattle.tc_model.specs.declared.items.Effect.{Effect}
use Rattle.tc_model.specs.declared.items.Effect.TheVariants.{Put, Took, Read}
use Rattle.tc_model.specs.declared.goals.Goal.{Goal}
use Rattle.tc_model.specs.declared.goals.Goal.TheVariants.{OutR, InR, RdR, NoR, Pre, Post, Success, Failure, True, Agent, Centre, Operation, Tuple, Equal, Differ, Is, Compare}
use Rattle.tc_goals.specs.Moments.{moment}
use Rattle.tc_goals.proofs.Leading.{leads_push}
use Rattle.tc_replay.specs.Following.{AgreesWith, has_effect, with_next, recorded_after, IsFollowed, HasNoStep, LeadsThere, LeadsNowhere}

leads_split : (choice : Choice) (scene : Scene) (gs hs : List Goal) (m end : Moment) → Leads choice scene (gs ++ hs) m end
    → (k : Moment) × Leads choice scene gs m k × Leads choice scene hs k end
leads_split choice scene [] hs m end leads = (m, refl, leads)
leads_split choice scene (g ∷ gs) hs m end leads =
    let rest = leads_split choice scene gs hs (moved leads.0 m) end leads.2 in
    (rest.0, (leads.0, leads.1, rest.1), rest.2)

moved_effects : (move : Move) (m : Moment) → IsPrefix m.effects (moved move m).effects
moved_effects Nothing m = IsPrefix-whole m.effects
moved_effects (Equates s t) m = IsPrefix-whole m.effects
moved_effects (Puts u) m = IsPrefix-append m.effects (Put u ∷ [])
moved_effects (Takes t u) m = IsPrefix-append m.effects (Took u ∷ [])
moved_effects (Reads t u) m = IsPrefix-append m.effects (Read u ∷ [])

leads_effects : (choice : Choice) (scene : Scene) (gs : List Goal) (m end : Moment) → Leads choice scene gs m end → IsPrefix m.effects end.effects
leads_effects choice scene [] m end leads = subst (λ (q : Moment). IsPrefix m.effects q.effects) (sym leads) (IsPrefix-whole m.effects)
leads_effects choice scene (g ∷ gs) m end leads =
    IsPrefix-trans m.effects (moved leads.0 m).effects end.effects (moved_effects leads.0 m)
    (leads_effects choice scene gs (moved leads.0 m) end leads.2)

-- what stands behind the first n of a list that goes on with it
next_is : {X : Type 0} (xs : List X) (n : ℕ) (x : X) → n ≤ length xs → IsPrefix (take n xs ++ x ∷ []) xs → slice_get xs n ≡ Some x
next_is [] zero x within p = let e = p.1 in absurd cc
next_is [] (suc n) x within p = absurd (omega (arith, within))
next_is (y ∷ ys) zero x within p = let e = p.1 in cc
next_is (y ∷ ys) (suc n) x within p = next_is ys n x (omega (arith, within)) (p.0, let e = p.1 in cc)

agrees_from : (recorded : List Effect) (n : ℕ) (move : Move) (m : Moment) → m.effects ≡ take n recorded → n ≤ length recorded
    → IsPrefix (moved move m).effects recorded → AgreesWith (slice_get recorded n) move
agrees_from recorded n Nothing m at within p = tt
agrees_from recorded n (Equates s t) m at within p = tt
agrees_from recorded n (Puts u) m at within p =
    next_is recorded n (Put u) within (subst (λ es. IsPrefix (es ++ Put u ∷ []) recorded) at p)
agrees_from recorded n (Takes t u) m at within p =
    next_is recorded n (Took u) within (subst (λ es. IsPrefix (es ++ Took u ∷ []) recorded) at p)
agrees_from recorded n (Reads t u) m at within p =
    next_is recorded n (Read u) within (subst (λ es. IsPrefix (es ++ Read u ∷ []) recorded) at p)

module _ (scene : Scene) (recorded : List Effect) (m : Moment) where
  pub begun : LeadsThere scene [] m m recorded
  begun = record { leads = refl; only = λ other leads front. leads }

  pub one_more : (gs : List Goal) (g : Goal) (k end : Moment) (n : ℕ) → n ≤ length recorded → k.effects ≡ take n recorded
      → LeadsThere scene gs m k recorded → IsFollowed scene g (slice_get recorded n) k end
      → LeadsThere scene (gs ++ g ∷ []) m end recorded
  one_more gs g k end n within at there followed = record {
    leads = subst (λ (q : Moment). Leads AnyOne scene (gs ++ g ∷ []) m q) (sym followed.leads)
        (leads_push AnyOne scene gs g m k followed.move there.leads followed.step);
    only = λ other leads front.
        let parts = leads_split AnyOne scene gs (g ∷ []) m other leads in
        let j = parts.0 in
        let before : IsPrefix j.effects recorded = IsPrefix-trans j.effects other.effects recorded (leads_effects AnyOne scene (g ∷ []) j other parts.2) front in
        let last : Leads AnyOne scene (g ∷ []) k other = subst (λ (q : Moment). Leads AnyOne scene (g ∷ []) q other) (there.only j parts.1 before) parts.2 in
        let agrees = agrees_from recorded n last.0 k at within (subst (λ (q : Moment). IsPrefix q.effects recorded) last.2 front) in
        last.2 ∙ (followed.only last.0 last.1 agrees ∙ sym followed.leads);
  }

  pub no_more : (gs : List Goal) (g : Goal) (hs : List Goal) (k : Moment) (n : ℕ) → n ≤ length recorded → k.effects ≡ take n recorded
      → LeadsThere scene gs m k recorded → HasNoStep scene g (slice_get recorded n) k
      → LeadsNowhere scene (gs ++ g ∷ hs) m recorded
  no_more gs g hs k n within at there none = λ other leads same.
      let parts = leads_split AnyOne scene gs (g ∷ hs) m other leads in
      let j = parts.0 in
      let before : IsPrefix j.effects recorded = subst (λ es. IsPrefix j.effects es) same (leads_effects AnyOne scene (g ∷ hs) j other parts.2) in
      let last : Leads AnyOne scene (g ∷ hs) k other = subst (λ (q : Moment). Leads AnyOne scene (g ∷ hs) q other) (there.only j parts.1 before) parts.2 in
      let front : IsPrefix (moved last.0 k).effects recorded = subst (λ es. IsPrefix (moved last.0 k).effects es) same (leads_effects AnyOne scene hs (moved last.0 k) other last.2) in
      none last.0 last.1 (agrees_from recorded n last.0 k at within front)

  -- effects are left over
  pub left_over : (gs : List Goal) (k : Moment) (n : ℕ) → n ≤ length recorded → k.effects ≡ take n recorded → n ≢ length recorded
      → LeadsThere scene gs m k recorded → LeadsNowhere scene gs m recorded
  left_over gs k n within at short there = λ other leads same.
      let whole : IsPrefix other.effects recorded = subst (λ es. IsPrefix es recorded) (sym same) (IsPrefix-whole recorded) in
      let is : recorded ≡ take n recorded = sym same ∙ (ap (λ (q : Moment). q.effects) (there.only other leads whole) ∙ at) in
      short (let e = ap length is in omega (arith, within, e, length-take n recorded))

-- a goal with an effect has the next one
pub effect_there : (scene : Scene) (g : Goal) (next : Option Effect) (m end : Moment) → has_effect g ≡ true → IsFollowed scene g next m end
    → (x : Effect) × (next ≡ Some x)
effect_there scene (OutR t) next m end some f = (Put f.step.does.0, subst (AgreesWith next) f.step.does.2 f.agrees)
effect_there scene (InR t) next m end some f = (Took f.step.does.0, subst (AgreesWith next) f.step.does.2 f.agrees)
effect_there scene (RdR t) next m end some f = (Read f.step.does.0, subst (AgreesWith next) f.step.does.2 f.agrees)
effect_there scene (NoR t) next m end some f = absurd (true≢false (sym some))
effect_there scene Pre next m end some f = absurd (true≢false (sym some))
effect_there scene Post next m end some f = absurd (true≢false (sym some))
effect_there scene Success next m end some f = absurd (true≢false (sym some))
effect_there scene Failure next m end some f = absurd (true≢false (sym some))
effect_there scene True next m end some f = absurd (true≢false (sym some))
effect_there scene (Agent t) next m end some f = absurd (true≢false (sym some))
effect_there scene (Centre t) next m end some f = absurd (true≢false (sym some))
effect_there scene (Operation t) next m end some f = absurd (true≢false (sym some))
effect_there scene (Tuple t) next m end some f = absurd (true≢false (sym some))
effect_there scene (Equal s t) next m end some f = absurd (true≢false (sym some))
effect_there scene (Differ s t) next m end some f = absurd (true≢false (sym some))
effect_there scene (Is s t) next m end some f = absurd (true≢false (sym some))
effect_there scene (Compare op s t) next m end some f = absurd (true≢false (sym some))

-- the first n and the next one
pub with_next_taken : (xs : List Effect) (n : ℕ) (x : Effect) → slice_get xs n ≡ Some x → with_next (slice_get xs n) (take n xs) ≡ take (n + 1) xs
with_next_taken xs n x at =
    ap (λ o. with_next o (take n xs)) at
    ∙ sym (take_read xs n x (slice_get_within xs n x at) (sym (get_or_from_slice_get xs n x x at)))

-- what has been recorded after one more goal
after_goal : (g : Goal) (xs : List Effect) (n : ℕ) → (has_effect g ≡ true → (x : Effect) × (slice_get xs n ≡ Some x))
    → recorded_after g (slice_get xs n) (take n xs) ≡ take (cond (has_effect g) (n + 1) n) xs
after_goal g xs n there = by (has_effect g) refl
  where
    by : (b : Bool) → has_effect g ≡ b → cond b (with_next (slice_get xs n) (take n xs)) (take n xs) ≡ take (cond b (n + 1) n) xs
    by true some = with_next_taken xs n (there some).0 (there some).1
    by false none = refl

-- and its place
pub place_behind : (g : Goal) (xs : List Effect) (n : ℕ) → n ≤ length xs → (has_effect g ≡ true → (x : Effect) × (slice_get xs n ≡ Some x))
    → cond (has_effect g) (n + 1) n ≤ length xs
place_behind g xs n within there = by (has_effect g) refl
  where
    by : (b : Bool) → has_effect g ≡ b → cond b (n + 1) n ≤ length xs
    by true some = omega (arith, slice_get_within xs n (there some).0 (there some).1)
    by false none = within

-- the loop over the goals
module _ (scene : Scene) (goals : List Goal) (recorded : List Effect) (begin : Moment) (i n : ℕ) (s : Equations) (us : List Tree)
    (within : n ≤ length recorded) (there : LeadsThere scene (take i goals) begin (moment s us (take n recorded)) recorded) where
  -- at its end
  pub goals_led : length goals ≤ i → n ≡ length recorded → LeadsThere scene goals begin (moment s us recorded) recorded
  goals_led whole all =
      subst (λ es. LeadsThere scene goals begin (moment s us es) recorded) (take_all n recorded (omega (arith, all)))
      (subst (λ gs. LeadsThere scene gs begin (moment s us (take n recorded)) recorded) (take_all i goals whole) there)

  pub goals_short : length goals ≤ i → n ≢ length recorded → LeadsNowhere scene goals begin recorded
  goals_short whole short =
      subst (λ gs. LeadsNowhere scene gs begin recorded) (take_all i goals whole)
      (left_over scene recorded begin (take i goals) (moment s us (take n recorded)) n within refl short there)

  -- within it
  module _ (g : Goal) (next : Option Effect) (inside : i < length goals) (at : g ≡ get_or goals i g) (is : next ≡ slice_get recorded n) where
    pub goal_none : ((es : List Effect) → HasNoStep scene g next (moment s us es)) → LeadsNowhere scene goals begin recorded
    goal_none none =
        subst (λ gs. LeadsNowhere scene gs begin recorded) (sym (split_read goals i g inside at))
        (no_more scene recorded begin (take i goals) g (drop (i + 1) goals) (moment s us (take n recorded)) n within refl there
        (subst (λ o. HasNoStep scene g o (moment s us (take n recorded))) is (none (take n recorded))))

    module _ (q : Equations) (vs : List Tree)
        (followed : (es : List Effect) → IsFollowed scene g next (moment s us es) (moment q vs (recorded_after g next es))) where
      pub goal_effect : has_effect g ≡ true → (x : Effect) × (slice_get recorded n ≡ Some x)
      goal_effect some =
          let x = effect_there scene g next (moment s us []) (moment q vs (recorded_after g next [])) some (followed []) in
          (x.0, sym is ∙ x.1)

      pub goal_led : LeadsThere scene (take (i + 1) goals) begin (moment q vs (take (cond (has_effect g) (n + 1) n) recorded)) recorded
      goal_led =
          subst (λ gs. LeadsThere scene gs begin (moment q vs (take (cond (has_effect g) (n + 1) n) recorded)) recorded) (sym (take_read goals i g inside at))
          (one_more scene recorded begin (take i goals) g (moment s us (take n recorded))
          (moment q vs (take (cond (has_effect g) (n + 1) n) recorded)) n within refl there
          (subst (λ es. IsFollowed scene g (slice_get recorded n) (moment s us (take n recorded)) (moment q vs es)) (after_goal g recorded n goal_effect)
          (subst (λ o. IsFollowed scene g o (moment s us (take n recorded)) (moment q vs (recorded_after g o (take n recorded)))) is (followed (take n recorded)))))
