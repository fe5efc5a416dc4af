-- An entry that is judged, and the history that it makes longer.
use Rattle.std.proofs.Common.{◌≡◌, ℕ, ◌+◌, ◌<◌, ◌≤◌, ◌⊎◌, Bool, List, [], ◌∷◌, ◌++◌, Option, Some, None, Result, Ok, Err, IfOk, IsTrue, length, slice_get, get_or, take, refl, sym, ap, subst, ◌∙◌, ⊎_elim, arith}
use Rattle.std.specs.Option.{MatchOption}
use Rattle.std.proofs.lemmas.List.{take_all, take_more}
use Rattle.std.proofs.lemmas.Option.{slice_get_cases, slice_get_within, get_or_from_slice_get}
use Rattle.tc_model.specs.Choices.{AnyOne}
use Rattle.tc_model.specs.Run.{IsAnswered, IsLegal, IsNext, IsRun, IsTold}
use Rattle.tc_model.specs.State.{State, Origin, IsQuiescent, opening, after_entry, after_history}
use Rattle.tc_model.specs.Tables.{IsServed}
use Rattle.tc_model.specs.declared.calls.CallId.{CallId}
use Rattle.tc_model.specs.declared.calls.Op.{Op}
use Rattle.tc_model.specs.declared.items.Item.{Item}
use Rattle.tc_model.specs.declared.outcomes.Outcome.{Outcome}
use Rattle.tc_model.specs.declared.outcomes.Reply.{Reply}
use Rattle.tc_model.specs.declared.entries.Entry.{Entry}
use Rattle.tc_model.specs.declared.entries.Entry.TheVariants.{Called, Gave, Looked}
use Rattle.tc_model.proofs.Runs.{EachEntry-push, after_history-push}
use Rattle.tc_replay.specs.Bad.{IsBadAt}

-- what holds without the answer
pub ok-if : {E : Type 0} (P : Type 0) → P → (r : Result Bool E) → IfOk r (λ y. IsTrue y → P)
ok-if P p (Ok y) = λ is. p
ok-if P p (Err e) = tt

module _ {E : Type 0} (origin : Origin) (history : List Entry) (s : State) (e : Entry) where
  pub exact-called : (id : CallId) (op : Op) (result : Outcome) (items read : List Item) (t : State) → e ≡ Called id op result items
      → t ≡ s → read ≡ items → IsQuiescent s × IsNext origin history id
      → (r : Result Bool E) → IfOk r (λ y. (IsTrue y → IsServed AnyOne origin t id op result read) × (IsServed AnyOne origin t id op result read → IsTrue y))
      → IfOk r (λ y. (IsTrue y → IsLegal AnyOne origin history s e) × (IsLegal AnyOne origin history s e → IsTrue y))
  exact-called id op result items read t is same reads heard (Ok y) told = (
    λ served. subst (IsLegal AnyOne origin history s) (sym is) (
      heard.0,
      heard.1,
      subst (λ (u : State). IsServed AnyOne origin u id op result items) same
          (subst (λ its. IsServed AnyOne origin t id op result its) reads (told.0 served)),
    ),
    λ legal. told.1 (subst (λ its. IsServed AnyOne origin t id op result its) (sym reads)
        (subst (λ (u : State). IsServed AnyOne origin u id op result items) (sym same)
        (subst (IsLegal AnyOne origin history s) is legal).2)),
  )
  exact-called id op result items read t is same reads heard (Err x) told = tt

  pub exact-gave : (id : CallId) (result : Outcome) (items read : List Item) → e ≡ Gave id result items → read ≡ items
      → (r : Result Bool E) → IfOk r (λ y. (IsTrue y → IsAnswered AnyOne origin s id result read) × (IsAnswered AnyOne origin s id result read → IsTrue y))
      → IfOk r (λ y. (IsTrue y → IsLegal AnyOne origin history s e) × (IsLegal AnyOne origin history s e → IsTrue y))
  exact-gave id result items read is reads (Ok y) told = (
    λ given. subst (IsLegal AnyOne origin history s) (sym is)
        (subst (λ its. IsAnswered AnyOne origin s id result its) reads (told.0 given)),
    λ legal. told.1 (subst (λ its. IsAnswered AnyOne origin s id result its) (sym reads)
        (subst (IsLegal AnyOne origin history s) is legal)),
  )
  exact-gave id result items read is reads (Err x) told = tt

  pub exact-looked : (id : CallId) (asked : ℕ) (reply : Option Reply) → e ≡ Looked id asked reply
      → IsQuiescent s × IsNext origin history id
      → (r : Result Bool E) → IfOk r (λ y. (IsTrue y → IsTold history id asked reply) × (IsTold history id asked reply → IsTrue y))
      → IfOk r (λ y. (IsTrue y → IsLegal AnyOne origin history s e) × (IsLegal AnyOne origin history s e → IsTrue y))
  exact-looked id asked reply is heard (Ok y) told = (
    λ same. subst (IsLegal AnyOne origin history s) (sym is) (heard.0, heard.1, told.0 same),
    λ legal. told.1 (subst (IsLegal AnyOne origin history s) is legal).2,
  )
  exact-looked id asked reply is heard (Err x) told = tt

-- the entries before a place, and the one there
pub front-grown : (history : List Entry) (place : ℕ) (e : Entry) → slice_get history place ≡ Some e
    → take place history ++ e ∷ [] ≡ take (place + 1) history
front-grown history place e at =
    sym (take_more history place e (slice_get_within history place e at)
    ∙ ap (λ y. take place history ++ y ∷ []) (get_or_from_slice_get history place e e at))

module _ (origin : Origin) (history : List Entry) (place : ℕ) (e : Entry) (at : slice_get history place ≡ Some e) where
  -- a run is one with an entry more that is legal
  pub run-grown : (s : State) → IsRun origin (take place history) → s ≡ after_history (opening origin) (take place history)
      → IsLegal AnyOne origin (take place history) s e → IsRun origin (take (place + 1) history)
  run-grown s run state legal =
      subst (IsRun origin) (front-grown history place e at)
      (EachEntry-push (IsLegal AnyOne origin) (opening origin) (take place history) e run
      (subst (λ t. IsLegal AnyOne origin (take place history) t e) state legal))

  -- and leads on by it
  pub state-grown : (s t : State) → s ≡ after_history (opening origin) (take place history) → t ≡ after_entry e s
      → t ≡ after_history (opening origin) (take (place + 1) history)
  state-grown s t state leads =
      leads ∙ (ap (after_entry e) state
      ∙ (sym (after_history-push (opening origin) (take place history) e)
      ∙ ap (after_history (opening origin)) (front-grown history place e at)))

-- an entry that isn't legal is the bad one
pub bad-here : (origin : Origin) (history : List Entry) (place : ℕ) → IsRun origin (take place history) → place < length history
    → ((e : Entry) → slice_get history place ≡ Some e → IsLegal AnyOne origin (take place history) (after_history (opening origin) (take place history)) e → ⊥)
    → IsBadAt origin history (place + 1)
bad-here origin history place run inside bad = record {
  place = place;
  counted = refl;
  run = run;
  bad = by (slice_get history place) refl (slice_get_cases history place).1;
}
  where
    by : (o : Option Entry) → slice_get history place ≡ o
        → ((e : Entry) × (place < length history) × (slice_get history place ≡ Some e) × (get_or history place e ≡ e)) ⊎ ((length history ≤ place) × (slice_get history place ≡ None))
        → MatchOption o ((place ≡ length history) × (IsQuiescent (after_history (opening origin) history) → ⊥))
        (λ e. IsLegal AnyOne origin (take place history) (after_history (opening origin) (take place history)) e → ⊥)
    by (Some e) at cases = bad e at
    by None at cases =
        ⊎_elim
        (λ (there : (e : Entry) × (place < length history) × (slice_get history place ≡ Some e) × (get_or history place e ≡ e)). absurd (cc))
        (λ (past : (length history ≤ place) × (slice_get history place ≡ None)). absurd (omega (arith, past.0, inside)))
        cases

-- behind a run whose state isn't quiet the bad place is the end
pub bad-behind : (origin : Origin) (history : List Entry) → IsRun origin history
    → (IsQuiescent (after_history (opening origin) history) → ⊥) → IsBadAt origin history (length history + 1)
bad-behind origin history run bad = record {
  place = length history;
  counted = refl;
  run = subst (IsRun origin) (sym (take_all (length history) history (omega arith))) run;
  bad = by (slice_get history (length history)) refl;
}
  where
    by : (o : Option Entry) → slice_get history (length history) ≡ o
        → MatchOption o ((length history ≡ length history) × (IsQuiescent (after_history (opening origin) history) → ⊥))
        (λ e. IsLegal AnyOne origin (take (length history) history) (after_history (opening origin) (take (length history) history)) e → ⊥)
    by None at = (refl, bad)
    by (Some e) at = absurd (let inside = slice_get_within history (length history) e at in omega (arith, inside))
