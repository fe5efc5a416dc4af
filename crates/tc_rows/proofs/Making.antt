-- The entries that agents made, as a history grows, and where one of them is found.
use Rattle.std.proofs.Common.{◌≡◌, ℕ, ◌<◌, ◌≤◌, true, false, cond, eqb, List, [], ◌∷◌, ◌++◌}
use Rattle.std.proofs.Common.{All, Contains, Option, Some, length, get_or, set, take, refl, sym, ap, subst, ◌∙◌, ⊎_elim}
use Rattle.std.proofs.Common.{inl, inr, slice_get, arith}
use Rattle.std.specs.List.Sorted.{IsPartitionPoint}
use Rattle.std.proofs.lemmas.Bool.{cases_Bool, cases_lt, both_ways, eqb-true, false≢true}
use Rattle.std.proofs.lemmas.List.{get_or_past}
use Rattle.std.proofs.lemmas.List.Elements.{All-nil, All-push, All-weaker, Contains-append_left, Contains-push}
use Rattle.std.proofs.lemmas.Option.{none-some, slice_get_within, slice_get_read, get_or_from_slice_get}
use Rattle.tc_lists.proofs.Pairs.{AllPairs-push_if}
use Rattle.tc_lists.proofs.Places.{slice_get_longer, slice_get_push, slice_get_pushed, Contains-slice_get}
use Rattle.tc_lists.proofs.Sets.{get_or-set_cases}
use Rattle.tc_model.specs.Calls.{calls_of, id_of, is_call_of}
use Rattle.tc_model.specs.Choices.{AnyOne}
use Rattle.tc_model.specs.Run.{IsLegal}
use Rattle.tc_model.specs.State.{opening, after_history}
use Rattle.tc_model.specs.declared.calls.CallId.{CallId}
use Rattle.tc_model.specs.declared.calls.Op.{Op}
use Rattle.tc_model.specs.declared.items.Item.{Item}
use Rattle.tc_model.specs.declared.outcomes.Outcome.{Outcome}
use Rattle.tc_model.specs.declared.outcomes.Reply.{Reply}
use Rattle.tc_model.specs.declared.entries.Entry.{Entry}
use Rattle.tc_model.specs.declared.entries.Entry.TheVariants.{Called, Gave, Looked}
use Rattle.tc_rows.specs.Made.{AreAllMade, AreMade, HasNoEntry, IsEntryOf, IsMadeAt, IsMaker, IsRunOf, RisesAbove, made_by}
use Rattle.tc_rows.specs.declared.made.Made.{Made}
use Rattle.tc_rows.proofs.Calls.{All-filter_at, All-filter_from}

-- no agent made an entry of a history without one
pub made-none : (lists : List (List Made)) → All (λ made. made ≡ []) lists → AreAllMade lists []
made-none lists none agent =
    let empty : made_by lists agent ≡ [] =
    ⊎_elim (λ (inside : agent < length lists). none agent [] inside)
    (λ (past : length lists ≤ agent). get_or_past lists agent [] past) (cases_lt agent (length lists)) in
    subst (AreMade agent []) (sym empty) (record {
      each = All-nil (IsMadeAt agent []);
      all = λ place e at by. absurd (none-some e at);
      rise = λ i j d before inside. absurd (omega (arith, inside));
    })

module _ (agent : ℕ) (history : List Entry) (e : Entry) (made : List Made) (are : AreMade agent history made) where
  -- what was made stays
  grows : (m : Made) → IsMadeAt agent history m → IsMadeAt agent (history ++ e ∷ []) m
  grows m at = record {
    entry = at.entry;
    stands = slice_get_longer history (e ∷ []) m.place at.entry at.stands;
    by = at.by;
    number = at.number;
  }

  -- an entry that the agent didn't make changes nothing
  pub made-passed : is_call_of agent e ≡ false → AreMade agent (history ++ e ∷ []) made
  made-passed other = record {
    each = All-weaker (IsMadeAt agent history) (IsMadeAt agent (history ++ e ∷ [])) grows made are.each;
    all = λ place x at by.
        ⊎_elim (λ (old : (place < length history) × (slice_get history place ≡ Some x)). are.all place x old.1 by)
        (λ (new : (place ≡ length history) × (x ≡ e)).
        absurd (both_ways (is_call_of agent x) (ap (is_call_of agent) new.1 ∙ other) by))
        (slice_get_push history e place x at);
    rise = are.rise;
  }

  -- one that it made comes behind the others
  pub made-pushed : is_call_of agent e ≡ true
      → All (λ d. (id_of d).number < (id_of e).number) (calls_of agent history)
      → AreMade agent (history ++ e ∷ []) (made ++ record { number = (id_of e).number; place = length history } ∷ [])
  made-pushed by above =
      let last : Made = record { number = (id_of e).number; place = length history } in
      let R : Made → Made → Type 0 = λ a b. (a.number < b.number) × (a.place < b.place) in
      record {
        each = All-push (IsMadeAt agent (history ++ e ∷ [])) made last
            (All-weaker (IsMadeAt agent history) (IsMadeAt agent (history ++ e ∷ [])) grows made are.each)
            (record { entry = e; stands = slice_get_pushed history e; by = by; number = refl });
        all = λ place x at of.
            ⊎_elim
            (λ (old : (place < length history) × (slice_get history place ≡ Some x)).
            Contains-append_left made (last ∷ []) (record { number = (id_of x).number; place = place }) (are.all place x old.1 of))
            (λ (new : (place ≡ length history) × (x ≡ e)).
            subst (λ (m : Made). Contains (made ++ last ∷ []) m)
            (sym (ap (λ n. record { number = (id_of x).number; place = n }) new.0
            ∙ ap (λ y. record { number = (id_of y).number; place = length history }) new.1))
            (Contains-push made last))
            (slice_get_push history e place x at);
        rise = AllPairs-push_if R made last true are.rise
            (λ yes. All-weaker (IsMadeAt agent history) (λ a. R a last)
            (λ m at.
            let below : (id_of at.entry).number < (id_of e).number =
            All-filter_at (is_call_of agent) (λ d. (id_of d).number < (id_of e).number) history m.place at.entry above at.stands at.by in
            (omega (arith, below, at.number), slice_get_within history m.place at.entry at.stands))
            made are.each);
      }

-- the entries of all agents behind one that an agent made
pub noted-made : (history : List Entry) (e : Entry) (place : ℕ) (id : CallId) (old new : List (List Made))
    → ((agent : ℕ) → is_call_of agent e ≡ eqb id.agent agent) → (id_of e).number ≡ id.number
    → id.agent < length old → place ≡ length history
    → new ≡ set old id.agent (made_by old id.agent ++ record { number = id.number; place = place } ∷ [])
    → RisesAbove history e → AreAllMade old history → AreAllMade new (history ++ e ∷ [])
noted-made history e place id old new by number inside at is above are agent =
    let m : Made = record { number = id.number; place = place } in
    let last : List Made = made_by old id.agent ++ m ∷ [] in
    let there : made_by new agent ≡ cond (eqb id.agent agent) last (made_by old agent) =
    ap (λ lists. made_by lists agent) is ∙ get_or-set_cases old id.agent agent last [] inside in
    ⊎_elim
    (λ (own : eqb id.agent agent ≡ true).
    let same : id.agent ≡ agent = eqb-true id.agent agent own in
    let full : AreMade agent (history ++ e ∷ []) (made_by old agent ++ record { number = (id_of e).number; place = length history } ∷ []) =
    made-pushed agent history e (made_by old agent) (are agent) (by agent ∙ own) (above agent (by agent ∙ own)) in
    let here : made_by new agent ≡ made_by old agent ++ record { number = (id_of e).number; place = length history } ∷ [] =
    there ∙ (ap (λ b. cond b last (made_by old agent)) own
    ∙ (ap (λ a. made_by old a ++ m ∷ []) same
    ∙ (ap (λ n. made_by old agent ++ record { number = n; place = place } ∷ []) (sym number)
    ∙ ap (λ p. made_by old agent ++ record { number = (id_of e).number; place = p } ∷ []) at))) in
    subst (AreMade agent (history ++ e ∷ [])) (sym here) full)
    (λ (other : eqb id.agent agent ≡ false).
    subst (AreMade agent (history ++ e ∷ []))
    (sym (there ∙ ap (λ b. cond b last (made_by old agent)) other))
    (made-passed agent history e (made_by old agent) (are agent) (by agent ∙ other)))
    (cases_Bool (eqb id.agent agent))

-- behind a call, and behind a look
module _ (history : List Entry) (e : Entry) (place : ℕ) (id : CallId) (old new : List (List Made))
    (inside : id.agent < length old) (at : place ≡ length history)
    (is : new ≡ set old id.agent (made_by old id.agent ++ record { number = id.number; place = place } ∷ []))
    (above : RisesAbove history e) (are : AreAllMade old history) where
  pub noted-called : (op : Op) (result : Outcome) (items : List Item) → e ≡ Called id op result items
      → AreAllMade new (history ++ e ∷ [])
  noted-called op result items call =
      noted-made history e place id old new (λ agent. ap (is_call_of agent) call) (ap (λ x. (id_of x).number) call) inside at is above are

  pub noted-looked : (asked : ℕ) (reply : Option Reply) → e ≡ Looked id asked reply
      → AreAllMade new (history ++ e ∷ [])
  noted-looked asked reply look =
      noted-made history e place id old new (λ agent. ap (is_call_of agent) look) (ap (λ x. (id_of x).number) look) inside at is above are

-- what an agent makes in a run is made by one of the centre's agents, with a number above those before
module _ (agents : ℕ) (history : List Entry) (of : IsRunOf agents history) (place : ℕ) where
  pub maker-inside : (e : Entry) → slice_get history place ≡ Some e → (id : CallId) → IsMaker e id → id.agent < agents
  maker-inside (Called i op result items) at id by =
      let legal : IsLegal AnyOne of.origin (take place history) (after_history (opening of.origin) (take place history)) (Called i op result items) =
      of.run place (Called i op result items) at in
      omega (arith, legal.1.agent, of.many, ap (λ (x : CallId). x.agent) by)
  maker-inside (Gave i result items) at id by = absurd by
  maker-inside (Looked i asked reply) at id by =
      let legal : IsLegal AnyOne of.origin (take place history) (after_history (opening of.origin) (take place history)) (Looked i asked reply) =
      of.run place (Looked i asked reply) at in
      omega (arith, legal.1.agent, of.many, ap (λ (x : CallId). x.agent) by)

  pub run-rises : (e : Entry) → slice_get history place ≡ Some e → RisesAbove (take place history) e
  run-rises (Called i op result items) at agent by =
      let P : ℕ → Type 0 = λ a. All (λ d. (id_of d).number < i.number) (calls_of a (take place history)) in
      subst P (eqb-true i.agent agent by) (of.run place (Called i op result items) at).1.number
  run-rises (Gave i result items) at agent by = absurd (false≢true by)
  run-rises (Looked i asked reply) at agent by =
      let P : ℕ → Type 0 = λ a. All (λ d. (id_of d).number < i.number) (calls_of a (take place history)) in
      subst P (eqb-true i.agent agent by) (of.run place (Looked i asked reply) at).1.number

-- behind one that no agent made
pub noted-none : (history : List Entry) (e : Entry) (lists : List (List Made))
    → ((agent : ℕ) → is_call_of agent e ≡ false) → AreAllMade lists history → AreAllMade lists (history ++ e ∷ [])
noted-none history e lists none are agent =
    made-passed agent history e (made_by lists agent) (are agent) (none agent)

-- where the first entry that isn't below the number has another one, no entry has it
pub made-no_entry : (agent number : ℕ) (history : List Entry) (made : List Made) → AreMade agent history made → (i : ℕ)
    → IsPartitionPoint (λ (m : Made). m.number < number) (λ (m : Made). number ≤ m.number) made i
    → ((m : Made) → slice_get made i ≡ Some m → m.number ≡ number → ⊥) → HasNoEntry agent number history
made-no_entry agent number history made are i point other =
    All-filter_from (is_call_of agent) (λ e. (id_of e).number ≡ number → ⊥) history
    (λ k e at by same.
    let m : Made = record { number = (id_of e).number; place = k } in
    let has : Contains made m = are.all k e at by in
    let j : ℕ = has.0 in
    let inside : j < length made = has.1 in
    let number_is : (get_or made j m).number ≡ number = ap (λ (x : Made). x.number) has.2 ∙ same in
    elim (cases_lt j i) [
      | inl before ↦ absurd (omega (arith, point.0 j m (omega arith) before, number_is))
      | inr from ↦
          elim (cases_lt i j) [
            | inl less ↦
                absurd (omega (arith, (are.rise i j m less inside).0, point.1 i m (omega arith) (omega (arith, less, inside)), number_is))
            | inr behind ↦
                let here : i ≡ j = omega (arith, from, behind) in
                let stands : get_or made i m ≡ m = ap (λ n. get_or made n m) here ∙ has.2 in
                other m (slice_get_read made (length made) i m refl (omega (arith, here, inside)) (sym stands)) same
          ]
    ])

-- what was made is an entry of the history
pub made-entry : (agent number : ℕ) (history : List Entry) (m : Made) (e : Entry) → IsMadeAt agent history m
    → e ≡ get_or history m.place e → m.number ≡ number → IsEntryOf agent number history e
made-entry agent number history m e at read same =
    let is : at.entry ≡ e = sym (get_or_from_slice_get history m.place at.entry e at.stands) ∙ sym read in
    subst (IsEntryOf agent number history) is (record {
      stands = Contains-slice_get history m.place at.entry at.stands;
      by = at.by;
      number_is = at.number ∙ same;
    })
