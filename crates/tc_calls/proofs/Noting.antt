-- Noting the entries of a turn one after another keeps the places those of the history.
use Rattle.std.proofs.Common.{◌≡◌, ℕ, ◌+◌, ◌-◌, ◌<◌, ◌≤◌, ◌⊎◌, All, cond, List, [], ◌∷◌, ◌++◌, Option, Some, None, length, slice_get, get_or, take, drop, refl, sym, ap, subst, ◌∙◌, ⊎_elim, arith}
use Rattle.std.proofs.lemmas.List.{length-take-le, length-drop, take_at, take_more, take-append-drop, get_or-drop}
use Rattle.std.proofs.lemmas.Option.{slice_get_within, get_or_from_slice_get}
use Rattle.tc_lists.proofs.Places.{slice_get_pushed}
use Rattle.tc_model.specs.Calls.{id_of, calls_of, same_id}
use Rattle.tc_model.specs.Choices.{AnyOne}
use Rattle.tc_model.specs.Run.{IsRun, IsLegal}
use Rattle.tc_model.specs.State.{State, opening, after_history}
use Rattle.tc_model.specs.declared.calls.CallId.{CallId}
use Rattle.tc_model.specs.declared.calls.Op.{Op}
use Rattle.tc_model.specs.declared.items.Item.{Item}
use Rattle.tc_model.specs.declared.outcomes.Outcome.{Outcome}
use Rattle.tc_model.specs.declared.outcomes.Reply.{Reply}
use Rattle.tc_model.specs.declared.entries.Entry.{Entry}
use Rattle.tc_model.specs.declared.entries.Entry.TheVariants.{Called, Gave, Looked}
use Rattle.tc_model.proofs.Runs.{EachEntry-append}
use Rattle.tc_calls.specs.Places.{place_in, ArePlaces, IsGave, IsSomeRun, Puts}
use Rattle.tc_calls.proofs.AgentPlaces.{puts-place, puts-rise}
use Rattle.tc_calls.proofs.Indexed.{index-called, index-gave, answered-place}

-- what stands at the front of a run is one
pub run-front : (history : List Entry) (n : ℕ) → IsSomeRun history → IsSomeRun (take n history)
run-front history n run = (
  run.0,
  EachEntry-append (IsLegal AnyOne run.0) (opening run.0) (take n history) (drop n history)
      (subst (IsRun run.0) (sym (take-append-drop n history)) run.1),
)

module _ (entries : List Entry) (place : ℕ) (run : IsSomeRun (take (place + 1) entries)) (e : Entry) (stands : slice_get entries place ≡ Some e) where
  abbrev before : List Entry
  before = take place entries

  abbrev state : State
  state = after_history (opening run.0) before

  within : place < length entries
  within = slice_get_within entries place e stands

  -- the entries before it, and it
  pub grown : (x : Entry) → e ≡ x → before ++ x ∷ [] ≡ take (place + 1) entries
  grown x is =
      sym (take_more entries place e within ∙ ap (λ y. before ++ y ∷ []) (get_or_from_slice_get entries place e e stands ∙ is))

  run-pushed : IsRun run.0 (before ++ e ∷ [])
  run-pushed = subst (IsRun run.0) (sym (grown e refl)) run.1

  -- the entry is legal where it stands
  pub legal : (x : Entry) → e ≡ x → IsLegal AnyOne run.0 before state x
  legal x is =
      subst (IsLegal AnyOne run.0 before state) is
      (subst (λ es. IsLegal AnyOne run.0 es (after_history (opening run.0) es) e) (take_at before (e ∷ []) (length before) refl)
      (run-pushed (length before) e (slice_get_pushed before e)))

  run-before : IsRun run.0 before
  run-before = EachEntry-append (IsLegal AnyOne run.0) (opening run.0) before (e ∷ []) run-pushed

  -- a call's number is above those of the entries that its agent made before
  pub number-above : (id : CallId) (op : Op) (result : Outcome) (items : List Item) → e ≡ Called id op result items
      → All (λ d. (id_of d).number < id.number) (calls_of id.agent before)
  number-above id op result items is = (legal (Called id op result items) is).1.number

  module _ (old new : List (List (ℕ × ℕ))) (places : ArePlaces old before) where
    sets : (id : CallId) → Puts id place old new
        → (j : CallId) → place_in new j ≡ cond (same_id id j) (Some (length before)) (place_in old j)
    sets id puts j =
        subst (λ n. place_in new j ≡ cond (same_id id j) (Some n) (place_in old j))
        (sym (length-take-le place entries (omega (arith, within)))) (puts-place id place old new puts j)

    pub noted-call : (id : CallId) (op : Op) (result : Outcome) (items : List Item) → e ≡ Called id op result items
        → Puts id place old new → ArePlaces new (take (place + 1) entries)
    noted-call id op result items is puts =
        subst (ArePlaces new) (grown (Called id op result items) is) (record {
          index = index-called run.0 before (place_in old) (place_in new) places.index id op result items
              (legal (Called id op result items) is).1 (sets id puts);
          rise = puts-rise id place old new puts places.rise;
        })

    pub noted-answer : (id : CallId) (result : Outcome) (items : List Item) → e ≡ Gave id result items
        → Puts id place old new → ArePlaces new (take (place + 1) entries)
    noted-answer id result items is puts =
        subst (ArePlaces new) (grown (Gave id result items) is) (record {
          index = index-gave run.0 before (place_in old) (place_in new) places.index run-before id result items
              (legal (Gave id result items) is) (sets id puts);
          rise = puts-rise id place old new puts places.rise;
        })

  -- what is answered has a place
  pub answered-there : (old : List (List (ℕ × ℕ))) → ArePlaces old before
      → (id : CallId) (result : Outcome) (items : List Item) → e ≡ Gave id result items → place_in old id ≡ None → ⊥
  answered-there old places id result items is none =
      answered-place run.0 before (place_in old) (place_in old) places.index run-before id result items
      (legal (Gave id result items) is) none

-- behind a call there are answers
pub answer-behind : (entries : List Entry) (start place : ℕ) (e : Entry) → All IsGave (drop start entries)
    → start ≤ place → slice_get entries place ≡ Some e → IsGave e
answer-behind entries start place e answers behind at =
    let within : place < length entries = slice_get_within entries place e at in
    let k : ℕ = place - start in
    let there : get_or (drop start entries) k e ≡ e =
    get_or-drop start entries k e ∙ ap (λ n. get_or entries n e) (omega (arith, behind))
    ∙ get_or_from_slice_get entries place e e at in
    subst IsGave there (answers k e (omega (arith, length-drop start entries, behind, within)))

-- an answer is neither a call nor a look
pub no-other : (e : Entry) → IsGave e
    → ((id : CallId) × (op : Op) × (result : Outcome) × (items : List Item) × (e ≡ Called id op result items))
    ⊎ ((id : CallId) × (asked : ℕ) × (reply : Option Reply) × (e ≡ Looked id asked reply)) → ⊥
no-other e gave other =
    ⊎_elim
    (λ (call : (id : CallId) × (op : Op) × (result : Outcome) × (items : List Item) × (e ≡ Called id op result items)).
    subst IsGave call.4 gave)
    (λ (look : (id : CallId) × (asked : ℕ) × (reply : Option Reply) × (e ≡ Looked id asked reply)). subst IsGave look.3 gave)
    other
