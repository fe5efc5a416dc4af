-- The steps of goals that were done one after another, and of one more.
use Rattle.std.proofs.Common.{◌≡◌, ◌≤◌, ◌<◌, ◌+◌, ◌*◌, ℕ, zero, suc, ◌⊎◌, inl, inr, true, false, cond, Some, List, [], ◌∷◌, ◌++◌, take, length, get_or, refl, sym, ap, ap₂, subst, ◌∙◌, append_assoc, arith}
use Rattle.std.proofs.lemmas.List.{append-nil, take_more}
use Rattle.tc_term.specs.Tree.{Tree}
use Rattle.tc_term.specs.TreeView.{tree_of}
use Rattle.tc_steps.specs.Tops.{agreeing}
use Rattle.tc_model.specs.Choices.{Choice}
use Rattle.tc_model.specs.Goals.{Scene, Moment, Move, Nothing, Equates, Puts, Takes, Reads, Does, Leads, moved}
use Rattle.tc_model.specs.Reactions.{Rule}
use Rattle.tc_model.specs.Tuples.{after_effect, after_effects}
use Rattle.tc_model.specs.declared.goals.Goal.{Goal}
use Rattle.tc_model.specs.declared.goals.Goal.TheVariants.{OutR, InR, RdR, NoR, Pre, Post}
use Rattle.tc_model.specs.declared.goals.Goal.TheVariants.{Success, Failure, True, Agent}
use Rattle.tc_model.specs.declared.goals.Goal.TheVariants.{Centre, Operation, Tuple, Equal}
use Rattle.tc_model.specs.declared.goals.Goal.TheVariants.{Differ, Is, Compare}
use Rattle.tc_model.specs.declared.items.Effect.{Effect}
use Rattle.tc_model.specs.declared.items.Effect.TheVariants.{Put, Took, Read}
use Rattle.tc_model.specs.declared.items.Item.{Item}
use Rattle.tc_model.specs.declared.items.Item.TheVariants.{Fired, Failed}
use Rattle.tc_model.proofs.Following.{body-tuples}
use Rattle.tc_body.specs.Costs.{sought, search_steps, goal_steps, has_effect, behind, after_goal, goals_steps, body_steps}

-- a goal has these effects: one or none
abbrev IsOwn : Goal → List Effect → Type 0
IsOwn g es = ((has_effect g ≡ true) × ((e : Effect) × (es ≡ e ∷ []))) ⊎ ((has_effect g ≡ false) × (es ≡ []))

abbrev own_of : Move → List Effect
own_of Nothing = []
own_of (Equates s t) = []
own_of (Puts u) = Put u ∷ []
own_of (Takes t u) = Took u ∷ []
own_of (Reads t u) = Read u ∷ []

none : (g : Goal) (move mv : Move) → has_effect g ≡ false → own_of mv ≡ [] → move ≡ mv → IsOwn g (own_of move)
none g move mv without empty is = inr (without, ap own_of is ∙ empty)

one : (g : Goal) (move mv : Move) (e : Effect) → has_effect g ≡ true → own_of mv ≡ e ∷ [] → move ≡ mv → IsOwn g (own_of move)
one g move mv e has effect is = inl (has, (e, ap own_of is ∙ effect))

does_own : (choice : Choice) (scene : Scene) (g : Goal) (m : Moment) (move : Move) → Does choice scene g m move → IsOwn g (own_of move)
does_own choice scene (OutR t) m move does = one (OutR t) move (Puts does.0) (Put does.0) refl refl does.2
does_own choice scene (InR t) m move does = one (InR t) move (Takes (tree_of t) does.0) (Took does.0) refl refl does.2
does_own choice scene (RdR t) m move does = one (RdR t) move (Reads (tree_of t) does.0) (Read does.0) refl refl does.2
does_own choice scene (NoR t) m move does = none (NoR t) move Nothing refl refl does.1
does_own choice scene Pre m move does = none Pre move Nothing refl refl does.1
does_own choice scene Post m move does = none Post move Nothing refl refl does.1
does_own choice scene Success m move does = none Success move Nothing refl refl does.1
does_own choice scene Failure m move does = none Failure move Nothing refl refl does.1
does_own choice scene True m move does = none True move Nothing refl refl does
does_own choice scene (Agent t) m move does = none (Agent t) move _ refl refl does
does_own choice scene (Centre t) m move does = none (Centre t) move _ refl refl does
does_own choice scene (Operation t) m move does = none (Operation t) move _ refl refl does
does_own choice scene (Tuple t) m move does = none (Tuple t) move _ refl refl does
does_own choice scene (Equal s t) m move does = none (Equal s t) move _ refl refl does
does_own choice scene (Differ s t) m move does = none (Differ s t) move Nothing refl refl does.1
does_own choice scene (Is s t) m move does = none (Is s t) move _ refl refl does.2
does_own choice scene (Compare comparison s t) m move does = none (Compare comparison s t) move Nothing refl refl does.5

move_effects : (move : Move) (m : Moment) → (moved move m).effects ≡ m.effects ++ own_of move
move_effects Nothing m = sym (append-nil m.effects)
move_effects (Equates s t) m = sym (append-nil m.effects)
move_effects (Puts u) m = refl
move_effects (Takes t u) m = refl
move_effects (Reads t u) m = refl

-- the effects are those of the goals
abbrev AreOf : List Goal → List Effect → Type 0
AreOf [] es = es ≡ []
AreOf (g ∷ gs) es = (own : List Effect) × (rest : List Effect) × (es ≡ own ++ rest) × IsOwn g own × AreOf gs rest

leads_effects : (choice : Choice) (scene : Scene) (gs : List Goal) (m end : Moment) → Leads choice scene gs m end
    → (es : List Effect) × (end.effects ≡ m.effects ++ es) × AreOf gs es
leads_effects choice scene [] m end leads = ([], ap (λ (k : Moment). k.effects) leads ∙ sym (append-nil m.effects), refl)
leads_effects choice scene (g ∷ gs) m end leads =
    let move = leads.0 in
    let more = leads_effects choice scene gs (moved move m) end leads.2 in (
      own_of move ++ more.0,
      more.1 ∙ (ap (λ es. es ++ more.0) (move_effects move m) ∙ append_assoc m.effects (own_of move) more.0),
      (own_of move, more.0, refl, does_own choice scene g m move leads.1.does, more.2),
    )

behind_own : (g : Goal) (own rest : List Effect) → IsOwn g own → behind g (own ++ rest) ≡ rest
behind_own g own rest (inl h) =
    ap (λ es. behind g (es ++ rest)) h.1.1 ∙ ap (λ b. cond b rest (h.1.0 ∷ rest)) h.0
behind_own g own rest (inr h) = ap (λ es. behind g (es ++ rest)) h.1 ∙ left rest
  where
    left : (es : List Effect) → behind g es ≡ es
    left [] = refl
    left (e ∷ es) = ap (λ b. cond b es (e ∷ es)) h.0

after_own : (g : Goal) (own rest : List Effect) (tuples : List Tree) → IsOwn g own
    → after_goal g (own ++ rest) tuples ≡ after_effects own tuples
after_own g own rest tuples (inl h) =
    ap (λ es. after_goal g (es ++ rest) tuples) h.1.1
    ∙ (ap (λ b. cond b (after_effect h.1.0 tuples) tuples) h.0 ∙ sym (ap (λ es. after_effects es tuples) h.1.1))
after_own g own rest tuples (inr h) =
    ap (λ es. after_goal g (es ++ rest) tuples) h.1 ∙ (left rest ∙ sym (ap (λ es. after_effects es tuples) h.1))
  where
    left : (es : List Effect) → after_goal g es tuples ≡ tuples
    left [] = refl
    left (e ∷ es) = ap (λ b. cond b (after_effect e tuples) tuples) h.0

after-append : (es fs : List Effect) (tuples : List Tree) → after_effects (es ++ fs) tuples ≡ after_effects fs (after_effects es tuples)
after-append [] fs tuples = refl
after-append (e ∷ es) fs tuples = after-append es fs (after_effect e tuples)

-- the first of several goals
goals_first : (g : Goal) (gs : List Goal) (own rest : List Effect) (tuples : List Tree) → IsOwn g own
    → goals_steps (g ∷ gs) (own ++ rest) tuples ≡ goal_steps g tuples + goals_steps gs rest (after_effects own tuples)
goals_first g gs own rest tuples is =
    ap₂ (λ (es : List Effect) (us : List Tree). goal_steps g tuples + goals_steps gs es us) (behind_own g own rest is) (after_own g own rest tuples is)

-- and one more behind them, whatever its effects
goals_push : (gs : List Goal) (g : Goal) (es fs : List Effect) (tuples : List Tree) → AreOf gs es
    → goals_steps (gs ++ g ∷ []) (es ++ fs) tuples ≡ goals_steps gs es tuples + goal_steps g (after_effects es tuples)
goals_push [] g es fs tuples are =
    let now = ap (λ us. goal_steps g (after_effects us tuples)) are in
    omega (arith, now)
goals_push (h ∷ gs) g es fs tuples are =
    let own = are.0 in
    let rest = are.1 in
    let split = are.2 in
    let is = are.3 in
    let now = after_effects own tuples in
    let whole : goals_steps (h ∷ gs ++ g ∷ []) (es ++ fs) tuples ≡ goal_steps h tuples + goals_steps (gs ++ g ∷ []) (rest ++ fs) now =
    ap (λ us. goals_steps (h ∷ gs ++ g ∷ []) us tuples) (ap (λ us. us ++ fs) split ∙ append_assoc own rest fs)
    ∙ goals_first h (gs ++ g ∷ []) own (rest ++ fs) tuples is in
    let front : goals_steps (h ∷ gs) es tuples ≡ goal_steps h tuples + goals_steps gs rest now =
    ap (λ us. goals_steps (h ∷ gs) us tuples) split ∙ goals_first h gs own rest tuples is in
    let more = goals_push gs g rest fs now are.4 in
    let last : after_effects es tuples ≡ after_effects rest now = ap (λ us. after_effects us tuples) split ∙ after-append own rest tuples in
    let end = ap (goal_steps g) last in
    omega (arith, whole, front, more, end)

module _ (choice : Choice) (scene : Scene) (goals : List Goal) (m : Moment) (fresh : m.effects ≡ []) (place : ℕ) (g : Goal)
    (inside : place < length goals) (at : g ≡ get_or goals place g) (k : Moment) (leads : Leads choice scene (take place goals) m k) where
  longer : take (place + 1) goals ≡ take place goals ++ g ∷ []
  longer = take_more goals place g inside ∙ ap (λ h. take place goals ++ h ∷ []) (sym at)

  -- the goal at this place, by which the effects may be more
  pub goals_more : (fs : List Effect)
      → goals_steps (take (place + 1) goals) (k.effects ++ fs) m.tuples ≡ goals_steps (take place goals) k.effects m.tuples + goal_steps g k.tuples
  goals_more fs =
      let got = leads_effects choice scene (take place goals) m k leads in
      let es : k.effects ≡ got.0 = got.1 ∙ ap (λ us. us ++ got.0) fresh in
      let whole = ap (λ gs. goals_steps gs (k.effects ++ fs) m.tuples) longer in
      let push = goals_push (take place goals) g k.effects fs m.tuples (subst (AreOf (take place goals)) (sym es) got.2) in
      let now = ap (goal_steps g) (body-tuples choice scene (take place goals) m k fresh leads) in
      omega (arith, whole, push, now)

  pub goals_same : goals_steps (take (place + 1) goals) k.effects m.tuples ≡ goals_steps (take place goals) k.effects m.tuples + goal_steps g k.tuples
  goals_same = ap (λ es. goals_steps (take (place + 1) goals) es m.tuples) (sym (append-nil k.effects)) ∙ goals_more []

  pub goals_step : (move : Move) (end : Moment) → end ≡ moved move k
      → goals_steps (take (place + 1) goals) end.effects m.tuples ≡ goals_steps (take place goals) k.effects m.tuples + goal_steps g k.tuples
  goals_step move end is =
      ap (λ es. goals_steps (take (place + 1) goals) es m.tuples) (ap (λ (n : Moment). n.effects) is ∙ move_effects move k) ∙ goals_more (own_of move)

-- of one goal, with whose term one tuple alone agrees
pub four_steps : (r : Rule) (item : Item) (tuples : List Tree) (g : Goal) (t : Tree) → r.goals ≡ g ∷ [] → sought g ≡ Some t
    → agreeing t tuples ≡ 1 → body_steps r item tuples ≤ 4
four_steps r (Fired pick clause effects) tuples g t only seeks alone =
    let search : search_steps (sought g) tuples ≡ 2 = ap (λ s. search_steps s tuples) seeks ∙ ap (λ n. 2 * n) alone in
    let whole = ap (λ gs. goals_steps gs effects tuples) only in
    omega (arith, search, whole)
four_steps r (Failed pick clause zero effects) tuples g t only seeks alone = omega arith
four_steps r (Failed pick clause (suc n) effects) tuples g t only seeks alone =
    let search : search_steps (sought g) tuples ≡ 2 = ap (λ s. search_steps s tuples) seeks ∙ ap (λ n. 2 * n) alone in
    let whole : goals_steps (take (suc n) r.goals) effects tuples ≡ goal_steps g tuples + 0 =
    ap (λ gs. goals_steps (take (suc n) gs) effects tuples) only ∙ front n in
    omega (arith, search, whole)
  where
    front : (n : ℕ) → goals_steps (g ∷ take n []) effects tuples ≡ goal_steps g tuples + 0
    front zero = refl
    front (suc n) = refl
