-- The last numbers of agents, as their histories grow.
use Rattle.std.proofs.Common.{◌≡◌, ◌<◌, ◌≤◌, ◌++◌, ℕ, Bool, true, false, cond, List, [], ◌∷◌, length, All, Contains, Option, Some, None, refl, sym, ap, subst, ◌∙◌, ⊎_elim, eqb, arith}
use Rattle.std.proofs.lemmas.Bool.{cases_Bool, eqb-true}
use Rattle.std.proofs.lemmas.List.{append-nil}
use Rattle.std.proofs.lemmas.List.Elements.{All-contains, All-head, All-tail, All-push, Contains-push, filter-append}
use Rattle.tc_model.specs.Calls.{id_of, is_call_of, calls_of}
use Rattle.tc_model.specs.Run.{IsNext}
use Rattle.tc_model.specs.State.{Origin}
use Rattle.tc_model.specs.declared.calls.CallId.{CallId}
use Rattle.tc_model.specs.declared.calls.Op.{Op}
use Rattle.tc_model.specs.declared.items.Item.{Item}
use Rattle.tc_model.specs.declared.outcomes.Outcome.{Outcome}
use Rattle.tc_model.specs.declared.outcomes.Reply.{Reply}
use Rattle.tc_model.specs.declared.entries.Entry.{Entry}
use Rattle.tc_model.specs.declared.entries.Entry.TheVariants.{Called, Gave, Looked}
use Rattle.tc_calls.specs.Numbers.{IsGreatest, IsLast, IsAbove, AreLast, number_in}
use Rattle.tc_calls.specs.Places.{IsGave}

-- nobody made an answer to a request
pub gaves-unmade : (agent : ℕ) (gaves : List Entry) → All IsGave gaves → calls_of agent gaves ≡ []
gaves-unmade agent [] all = refl
gaves-unmade agent (Called id op result items ∷ es) all = absurd (All-head IsGave (Called id op result items) es all)
gaves-unmade agent (Gave id result items ∷ es) all = gaves-unmade agent es (All-tail IsGave (Gave id result items) es all)
gaves-unmade agent (Looked id asked reply ∷ es) all = absurd (All-head IsGave (Looked id asked reply) es all)

below : (es : List Entry) (n : ℕ) → All (λ e. (id_of e).number < n) es → All (λ e. (id_of e).number ≤ n) es
below es n all i d within = omega (arith, all i d within)

module _ (history : List Entry) (e : Entry) (gaves : List Entry) (all : All IsGave gaves) where
  -- the entries that an agent made, once one more stands there
  made : (agent : ℕ) (mine : Bool) → is_call_of agent e ≡ mine
      → calls_of agent (history ++ e ∷ gaves) ≡ calls_of agent history ++ cond mine (e ∷ []) []
  made agent mine is =
      filter-append (is_call_of agent) history (e ∷ gaves)
      ∙ ap (λ b. calls_of agent history ++ cond b (e ∷ calls_of agent gaves) (calls_of agent gaves)) is
      ∙ ap (λ gs. calls_of agent history ++ cond mine (e ∷ gs) gs) (gaves-unmade agent gaves all)

  last-other : (agent : ℕ) (number : Option ℕ) → is_call_of agent e ≡ false → IsLast agent history number
      → IsLast agent (history ++ e ∷ gaves) number
  last-other agent None other last =
      made agent false other ∙ append-nil (calls_of agent history) ∙ last
  last-other agent (Some n) other last =
      let same : calls_of agent history ≡ calls_of agent (history ++ e ∷ gaves) =
      sym (made agent false other ∙ append-nil (calls_of agent history)) in
      record {
        entry = last.entry;
        stands = subst (λ es. Contains es last.entry) same last.stands;
        of = last.of;
        most = subst (All (λ d. (id_of d).number ≤ n)) same last.most;
      }

  last-own : (agent n : ℕ) → is_call_of agent e ≡ true → (id_of e).number ≡ n
      → All (λ d. (id_of d).number < n) (calls_of agent history) → IsGreatest agent (history ++ e ∷ gaves) n
  last-own agent n own of above =
      let grown : calls_of agent history ++ e ∷ [] ≡ calls_of agent (history ++ e ∷ gaves) = sym (made agent true own) in
      record {
        entry = e;
        stands = subst (λ es. Contains es e) grown (Contains-push (calls_of agent history) e);
        of = of;
        most = subst (All (λ d. (id_of d).number ≤ n)) grown
            (All-push (λ d. (id_of d).number ≤ n) (calls_of agent history) e (below (calls_of agent history) n above) (omega (arith, of)));
      }

  pub lasts-grown : (old new : List (Option ℕ)) (id : CallId) → ((agent : ℕ) → is_call_of agent e ≡ eqb id.agent agent)
      → id_of e ≡ id → All (λ d. (id_of d).number < id.number) (calls_of id.agent history)
      → ((agent : ℕ) → number_in new agent ≡ cond (eqb id.agent agent) (Some id.number) (number_in old agent))
      → AreLast old history → AreLast new (history ++ e ∷ gaves)
  lasts-grown old new id mine is above noted last agent =
      let P : Option ℕ → Type 0 = IsLast agent (history ++ e ∷ gaves) in
      ⊎_elim
      (λ (own : eqb id.agent agent ≡ true).
      let same : id.agent ≡ agent = eqb-true id.agent agent own in
      let here : number_in new agent ≡ Some id.number =
      noted agent ∙ ap (λ b. cond b (Some id.number) (number_in old agent)) own in
      subst P (sym here)
      (last-own agent id.number (mine agent ∙ own) (ap (λ (i : CallId). i.number) is)
      (subst (λ a. All (λ d. (id_of d).number < id.number) (calls_of a history)) same above)))
      (λ (other : eqb id.agent agent ≡ false).
      let there : number_in new agent ≡ number_in old agent =
      noted agent ∙ ap (λ b. cond b (Some id.number) (number_in old agent)) other in
      subst P (sym there) (last-other agent (number_in old agent) (mine agent ∙ other) (last agent)))
      (cases_Bool (eqb id.agent agent))

-- what an entry that its agent made leaves
module _ (old : List Entry) (id : CallId) (numbers noted : List (Option ℕ))
    (above : All (λ d. (id_of d).number < id.number) (calls_of id.agent old))
    (notes : (agent : ℕ) → number_in noted agent ≡ cond (eqb id.agent agent) (Some id.number) (number_in numbers agent))
    (last : AreLast numbers old) where
  -- a call with the answers behind it
  pub turn-numbers : (op : Op) (result : Outcome) (items : List Item) (gaves : List Entry) → All IsGave gaves
      → AreLast noted (old ++ Called id op result items ∷ gaves)
  turn-numbers op result items gaves answers =
      lasts-grown old (Called id op result items) gaves answers numbers noted id (λ agent. refl) refl above notes last

  pub look-numbers : (asked : ℕ) (reply : Option Reply) → AreLast noted (old ++ Looked id asked reply ∷ [])
  look-numbers asked reply =
      lasts-grown old (Looked id asked reply) [] (λ k d inside. absurd (omega (arith, inside))) numbers noted id (λ agent. refl)
      refl above notes last

-- an answer leaves the numbers as they are
pub gave-numbers : (old : List Entry) (id : CallId) (result : Outcome) (items : List Item) (numbers : List (Option ℕ))
    → AreLast numbers old → AreLast numbers (old ++ Gave id result items ∷ [])
gave-numbers old id result items numbers last agent =
    last-other old (Gave id result items) [] (λ k d inside. absurd (omega (arith, inside))) agent (number_in numbers agent) refl
    (last agent)

-- a number above the last is one for the agent's next call
pub next-above : (origin : Origin) (history : List Entry) (agent : ℕ) (last : Option ℕ) (number : ℕ) → IsLast agent history last
    → agent < length origin.agents → IsAbove last number
    → IsNext origin history (record { agent = agent; number = number })
next-above origin history agent None number is within above = record {
  agent = within;
  number = λ i d inside. absurd (omega (arith, inside, ap length is));
}
next-above origin history agent (Some n) number is within above = record {
  agent = within;
  number = λ i d inside. omega (arith, is.most i d inside, above);
}

-- a number that may follow is above the last one
pub above-last : (history : List Entry) (agent : ℕ) (last : Option ℕ) (number : ℕ) → IsLast agent history last
    → All (λ e. (id_of e).number < number) (calls_of agent history) → IsAbove last number
above-last history agent None number is above = tt
above-last history agent (Some n) number is above =
    subst (λ m. m < number) is.of (All-contains (λ e. (id_of e).number < number) (calls_of agent history) is.entry above is.stands)
