-- What one more entry makes of the calls and the replies of a history.
use Rattle.std.proofs.Common.{◌≡◌, ◌==◌, ◌<◌, ◌⊎◌, inl, inr, ⊎_elim, ℕ, Bool, true, false, cond, None}
use Rattle.std.proofs.Common.{List, [], ◌∷◌, ◌++◌, All, refl, sym, ap, ap₂, ◌∙◌, subst, arith, eqb-true}
use Rattle.std.proofs.lemmas.Bool.{and_parts, both_ways, false_from_ne_true}
use Rattle.std.proofs.lemmas.List.Elements.{All-contains, All-head, All-tail, Contains-append_left, Contains-push_cases}
use Rattle.std.proofs.lemmas.Map.Made.{Contains-tail}
use Rattle.tc_model.specs.Calls.{id_of, same_id, is_call_of, calls_of, IsCallOf}
use Rattle.tc_model.specs.Entries.{IsAnswerOutcome, IsWellFormed}
use Rattle.tc_model.specs.Replies.{reply_of, outcome_given, or_given, outcome_in, reply_in}
use Rattle.tc_model.specs.Run.{HasCall}
use Rattle.tc_model.specs.declared.calls.CallId.{CallId}
use Rattle.tc_model.specs.declared.calls.Op.{Op}
use Rattle.tc_model.specs.declared.items.Item.{Item}
use Rattle.tc_model.specs.declared.outcomes.Outcome.{Outcome}
use Rattle.tc_model.specs.declared.outcomes.Outcome.TheVariants as outcome
use Rattle.tc_model.specs.declared.entries.Entry.{Entry}
use Rattle.tc_model.specs.declared.entries.Entry.TheVariants.{Called, Gave, Looked}
use Rattle.tc_model.proofs.Histories.{same_id-self, same_id-below, outcome_in-push}
use Rattle.tc_lists.proofs.Filters.{All-filter_each}

pub same_id-true : (i j : CallId) → same_id i j ≡ true → i ≡ j
same_id-true i j same =
    let parts = and_parts (i.agent == j.agent) (i.number == j.number) same in
    let agents : i.agent ≡ j.agent = eqb-true i.agent j.agent parts.0 in
    let numbers : i.number ≡ j.number = eqb-true i.number j.number parts.1 in
    ap₂ (λ (a n : ℕ). let id : CallId = record { agent = a; number = n } in id) agents numbers

pub same_id-at : (i j : CallId) → i ≡ j → same_id i j ≡ true
same_id-at i j e = subst (λ k. same_id i k ≡ true) e (same_id-self i)

pub same_id-back : (i j : CallId) → same_id i j ≡ false → same_id j i ≡ false
same_id-back i j other =
    false_from_ne_true (same_id j i)
    (λ same. both_ways (same_id i j) other (same_id-at i j (sym (same_id-true j i same))))

pub call-id : (id : CallId) (e : Entry) → IsCallOf id e → id_of e ≡ id
call-id id (Called i op result items) call = call
call-id id (Gave i result items) call = absurd call
call-id id (Looked i asked reply) call = absurd call

pub HasCall-grows : (id : CallId) (history : List Entry) (e : Entry) → HasCall id history → HasCall id (history ++ e ∷ [])
HasCall-grows id history e has = record {
  entry = has.entry;
  stands = Contains-append_left history (e ∷ []) has.entry has.stands;
  call = has.call;
}

pub HasCall-push_cases : (id : CallId) (history : List Entry) (e : Entry)
    → HasCall id (history ++ e ∷ []) → HasCall id history ⊎ IsCallOf id e
HasCall-push_cases id history e has =
    ⊎_elim
    (λ old. inl (record { entry = has.entry; stands = old; call = has.call }))
    (λ new. inr (subst (IsCallOf id) (sym new) has.call))
    (Contains-push_cases history e has.entry has.stands)

HasCall-tail : (id : CallId) (e : Entry) (history : List Entry)
    → (IsCallOf id e → ⊥) → HasCall id (e ∷ history) → HasCall id history
HasCall-tail id e history other has = record {
  entry = has.entry;
  stands = Contains-tail e history has.entry (λ first. other (subst (IsCallOf id) (sym first) has.call)) has.stands;
  call = has.call;
}

number-below : (agent number : ℕ) (id : CallId) (e : Entry) → IsCallOf id e
    → (is_call_of agent e ≡ true → (id_of e).number < number) → (id.agent == agent) ≡ true → id.number < number
number-below agent number id (Called i op result items) call below =
    subst (λ (j : CallId). (j.agent == agent) ≡ true → j.number < number) call below
number-below agent number id (Gave i result items) call below = absurd call
number-below agent number id (Looked i asked reply) call below = absurd call

-- a number above those of an agent's calls so far makes the id of none of the calls
pub HasCall-other : (history : List Entry) (id j : CallId)
    → All (λ d. (id_of d).number < id.number) (calls_of id.agent history) → HasCall j history → same_id id j ≡ false
HasCall-other history id j above has =
    let P : Entry → Type 0 = λ d. (id_of d).number < id.number in
    let mine : Entry → Bool = is_call_of id.agent in
    let below : mine has.entry ≡ true → (id_of has.entry).number < id.number =
    All-contains (λ d. mine d ≡ true → P d) history has.entry (All-filter_each mine P history above) has.stands in
    same_id-back j id (same_id-below j id (number-below id.agent id.number j has.entry has.call below))

outcome_given-other : (history : List Entry) (e : Entry) (id : CallId)
    → same_id (id_of e) id ≡ false → outcome_given (history ++ e ∷ []) id ≡ outcome_given history id
outcome_given-other [] (Called i op result items) id other = refl
outcome_given-other [] (Gave i result items) id other = ap (λ b. cond b result outcome.Pending) other
outcome_given-other [] (Looked i asked reply) id other = refl
outcome_given-other (Called i op result items ∷ es) e id other = outcome_given-other es e id other
outcome_given-other (Gave i result items ∷ es) e id other =
    ap (λ given. cond (same_id i id) result given) (outcome_given-other es e id other)
outcome_given-other (Looked i asked reply ∷ es) e id other = outcome_given-other es e id other

outcome_in-other : (history : List Entry) (e : Entry) (id : CallId)
    → same_id (id_of e) id ≡ false → outcome_in (history ++ e ∷ []) id ≡ outcome_in history id
outcome_in-other [] (Called i op result items) id other =
    ap (λ b. cond b (or_given result outcome.Pending) outcome.Pending) other
outcome_in-other [] (Gave i result items) id other = refl
outcome_in-other [] (Looked i asked reply) id other = refl
outcome_in-other (Called i op result items ∷ es) e id other =
    ap₂ (λ given found. cond (same_id i id) (or_given result given) found)
    (outcome_given-other es e id other) (outcome_in-other es e id other)
outcome_in-other (Gave i result items ∷ es) e id other = outcome_in-other es e id other
outcome_in-other (Looked i asked reply ∷ es) e id other = outcome_in-other es e id other

-- an entry of another call changes no reply
pub reply_in-other : (history : List Entry) (e : Entry) (id : CallId)
    → same_id (id_of e) id ≡ false → reply_in (history ++ e ∷ []) id ≡ reply_in history id
reply_in-other history e id other = ap reply_of (outcome_in-other history e id other)

or_given-nothing : (result : Outcome) → or_given result outcome.Pending ≡ result
or_given-nothing outcome.Pending = refl
or_given-nothing _ = refl

-- a call has the reply of its own entry as long as nothing is given to it
pub reply_in-called : (history : List Entry) (id : CallId) (op : Op) (result : Outcome) (items : List Item)
    → All (λ e. (id_of e).number < id.number) (calls_of id.agent history)
    → reply_in (history ++ Called id op result items ∷ []) id ≡ reply_of result
reply_in-called history id op result items above =
    ap reply_of (outcome_in-push history id op result items above ∙ or_given-nothing result)

pub answer-replies : (result : Outcome) → IsAnswerOutcome result → reply_of result ≡ None → ⊥
answer-replies outcome.Pending answer none = answer
answer-replies _ answer none = absurd (cc)

-- what is given to a call that was given no answer is what follows
outcome_given-later : (history more : List Entry) (id : CallId) → All IsWellFormed history
    → reply_of (outcome_given history id) ≡ None → outcome_given (history ++ more) id ≡ outcome_given more id
outcome_given-later [] more id well none = refl
outcome_given-later (Called i op result items ∷ es) more id well none =
    outcome_given-later es more id (All-tail IsWellFormed (Called i op result items) es well) none
outcome_given-later (Gave i result items ∷ es) more id well none =
    let first = All-head IsWellFormed (Gave i result items) es well in
    let rest = All-tail IsWellFormed (Gave i result items) es well in
    let given : List Entry → Bool → Outcome = λ ds b. cond b result (outcome_given ds id) in
    elim (same_id i id) as (λ b. reply_of (given es b) ≡ None → given (es ++ more) b ≡ outcome_given more id) [
      | true ↦ λ here. absurd (answer-replies result first.0 here)
      | false ↦ λ later. outcome_given-later es more id rest later
    ]
    none
outcome_given-later (Looked i asked reply ∷ es) more id well none =
    outcome_given-later es more id (All-tail IsWellFormed (Looked i asked reply) es well) none

or_given-later : (result : Outcome) (es more : List Entry) (id : CallId) → All IsWellFormed es
    → reply_of (or_given result (outcome_given es id)) ≡ None
    → or_given result (outcome_given (es ++ more) id) ≡ outcome_given more id
or_given-later outcome.Pending es more id well none = outcome_given-later es more id well none
or_given-later _ es more id well none = absurd (cc)

-- the outcome of a call that has no reply is what it is given later
outcome_in-later : (history more : List Entry) (id : CallId) → All IsWellFormed history → HasCall id history
    → reply_in history id ≡ None → outcome_in (history ++ more) id ≡ outcome_given more id
outcome_in-later [] more id well has none = absurd (omega (arith, has.stands.1))
outcome_in-later (Called i op result items ∷ es) more id well has none =
    let rest = All-tail IsWellFormed (Called i op result items) es well in
    let found : List Entry → Bool → Outcome =
    λ ds b. cond b (or_given result (outcome_given ds id)) (outcome_in ds id) in
    elim (same_id i id) as
    (λ b. same_id i id ≡ b → reply_of (found es b) ≡ None → found (es ++ more) b ≡ outcome_given more id) [
      | true ↦ λ same here. or_given-later result es more id rest here
      | false ↦ λ other later.
          outcome_in-later es more id rest
          (HasCall-tail id (Called i op result items) es (λ call. both_ways (same_id i id) other (same_id-at i id call)) has)
          later
    ]
    refl none
outcome_in-later (Gave i result items ∷ es) more id well has none =
    let rest = All-tail IsWellFormed (Gave i result items) es well in
    outcome_in-later es more id rest (HasCall-tail id (Gave i result items) es (λ call. call) has) none
outcome_in-later (Looked i asked reply ∷ es) more id well has none =
    let rest = All-tail IsWellFormed (Looked i asked reply) es well in
    outcome_in-later es more id rest (HasCall-tail id (Looked i asked reply) es (λ call. call) has) none

-- a call that has no reply has that of the answer that it is given
pub reply_in-given : (history : List Entry) (id : CallId) (result : Outcome) (items : List Item)
    → All IsWellFormed history → HasCall id history → reply_in history id ≡ None
    → reply_in (history ++ Gave id result items ∷ []) id ≡ reply_of result
reply_in-given history id result items well has none =
    ap reply_of
    (outcome_in-later history (Gave id result items ∷ []) id well has none
    ∙ ap (λ b. cond b result outcome.Pending) (same_id-self id))
