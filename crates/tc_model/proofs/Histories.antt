-- Replies and calls in a history that grows at its end.
use Rattle.std.proofs.Common.{◌≡◌, ◌==◌, ◌<◌, ◌≤◌, ℕ, suc, zero, add-one, ◌&&◌, Bool, true, false, cond}
use Rattle.std.proofs.Common.{List, [], ◌∷◌, ◌++◌, Some, All, AllPairs, length, get_or, take}
use Rattle.std.proofs.Common.{refl, sym, ◌∙◌, ap, subst, arith}
use Rattle.std.proofs.lemmas.Bool.{eqb-true, ne_eqb, eq-eqb}
use Rattle.std.proofs.lemmas.List.{take_more, take_all}
use Rattle.std.proofs.lemmas.List.Elements.{filter-append}
use Rattle.std.proofs.lemmas.Option.{slice_get-get_or}
use mathlib.Core.List.{IsPrefix}
use Rattle.tc_model.specs.Choices.{AnyOne}
use Rattle.tc_model.specs.State.{State, Origin, opening, after_history}
use Rattle.tc_model.specs.Calls.{id_of, same_id, is_call_of, calls_of}
use Rattle.tc_model.specs.Replies.{reply_of, outcome_given, or_given, outcome_in, reply_in}
use Rattle.tc_model.specs.Run.{IsLegal, IsRun}
use Rattle.tc_model.specs.declared.calls.CallId.{CallId}
use Rattle.tc_model.specs.declared.calls.Op.{Op}
use Rattle.tc_model.specs.declared.items.Item.{Item}
use Rattle.tc_model.specs.declared.outcomes.Outcome.{Outcome}
use Rattle.tc_model.specs.declared.outcomes.Outcome.TheVariants as outcome
use Rattle.tc_model.specs.declared.outcomes.Reply.{Reply}
use Rattle.tc_model.specs.declared.entries.Entry.{Entry}
use Rattle.tc_model.specs.declared.entries.Entry.TheVariants.{Called, Gave, Looked}
use Rattle.tc_lists.proofs.Filters.{All-filter_head, All-filter_tail}
use Rattle.tc_lists.proofs.Pairs.{AllPairs-push_if}

pub same_id-self : (id : CallId) → same_id id id ≡ true
same_id-self id = rw (eq-eqb id.agent id.agent refl, eq-eqb id.number id.number refl) refl

-- an id of the same agent with a smaller number is another
pub same_id-below : (i id : CallId) → ((i.agent == id.agent) ≡ true → i.number < id.number) → same_id i id ≡ false
same_id-below i id below =
    elim (i.agent == id.agent) as (λ b. (b ≡ true → i.number < id.number) → (b && (i.number == id.number)) ≡ false)
    [ true ↦ λ smaller. ne_eqb i.number id.number (λ e. omega (arith, smaller refl)) | false ↦ λ smaller. refl ]
    below

-- an outcome with a reply is not replaced
pub or_given-kept : (result given : Outcome) (r : Reply) → reply_of result ≡ Some r → or_given result given ≡ result
or_given-kept outcome.Pending given r h = absurd (cc)
or_given-kept _ given r h = refl

-- a call whose number is above those of its agent's calls so far has the outcome of its own entry
pub outcome_in-push : (history : List Entry) (id : CallId) (op : Op) (result : Outcome) (items : List Item)
    → All (λ e. (id_of e).number < id.number) (calls_of id.agent history)
    → outcome_in (history ++ Called id op result items ∷ []) id ≡ or_given result outcome.Pending
outcome_in-push [] id op result items above =
    ap (λ b. cond b (or_given result outcome.Pending) outcome.Pending) (same_id-self id)
outcome_in-push (Called i o r is ∷ es) id op result items above =
    let P : Entry → Type 0 = λ e. (id_of e).number < id.number in
    let mine : Entry → Bool = is_call_of id.agent in
    let other : same_id i id ≡ false = same_id-below i id (All-filter_head mine P (Called i o r is) es above) in
    let rest = All-filter_tail mine P (Called i o r is) es above in
    let pushed : List Entry = es ++ Called id op result items ∷ [] in
    ap (λ b. cond b (or_given r (outcome_given pushed id)) (outcome_in pushed id)) other
    ∙ outcome_in-push es id op result items rest
outcome_in-push (Gave i r is ∷ es) id op result items above = outcome_in-push es id op result items above
outcome_in-push (Looked i asked r ∷ es) id op result items above =
    let P : Entry → Type 0 = λ e. (id_of e).number < id.number in
    outcome_in-push es id op result items (All-filter_tail (is_call_of id.agent) P (Looked i asked r) es above)

pub reply_in-push : (history : List Entry) (id : CallId) (op : Op) (result : Outcome) (items : List Item) (r : Reply)
    → All (λ e. (id_of e).number < id.number) (calls_of id.agent history) → reply_of result ≡ Some r
    → reply_in (history ++ Called id op result items ∷ []) id ≡ Some r
reply_in-push history id op result items r above replied =
    ap reply_of (outcome_in-push history id op result items above ∙ or_given-kept result outcome.Pending r replied)
    ∙ replied

pub outcome_given-append : (history more : List Entry) (id : CallId) (r : Reply)
    → reply_of (outcome_given history id) ≡ Some r → outcome_given (history ++ more) id ≡ outcome_given history id
outcome_given-append [] more id r h = absurd (cc)
outcome_given-append (Called i op result items ∷ es) more id r h = outcome_given-append es more id r h
outcome_given-append (Gave i result items ∷ es) more id r h =
    let given : List Entry → Bool → Outcome = λ ds b. cond b result (outcome_given ds id) in
    elim (same_id i id) as (λ b. reply_of (given es b) ≡ Some r → given (es ++ more) b ≡ given es b)
    [ true ↦ λ here. refl | false ↦ λ later. outcome_given-append es more id r later ]
    h
outcome_given-append (Looked i asked reply ∷ es) more id r h = outcome_given-append es more id r h

or_given-append : (result : Outcome) (es more : List Entry) (id : CallId) (r : Reply)
    → reply_of (or_given result (outcome_given es id)) ≡ Some r
    → or_given result (outcome_given (es ++ more) id) ≡ or_given result (outcome_given es id)
or_given-append outcome.Pending es more id r h = outcome_given-append es more id r h
or_given-append _ es more id r h = refl

pub outcome_in-append : (history more : List Entry) (id : CallId) (r : Reply)
    → reply_of (outcome_in history id) ≡ Some r → outcome_in (history ++ more) id ≡ outcome_in history id
outcome_in-append [] more id r h = absurd (cc)
outcome_in-append (Called i op result items ∷ es) more id r h =
    let found : List Entry → Bool → Outcome = λ ds b. cond b (or_given result (outcome_given ds id)) (outcome_in ds id) in
    elim (same_id i id) as (λ b. reply_of (found es b) ≡ Some r → found (es ++ more) b ≡ found es b)
    [ true ↦ λ here. or_given-append result es more id r here | false ↦ λ later. outcome_in-append es more id r later ]
    h
outcome_in-append (Gave i result items ∷ es) more id r h = outcome_in-append es more id r h
outcome_in-append (Looked i asked reply ∷ es) more id r h = outcome_in-append es more id r h

pub reply_in-IsPrefix : (before history : List Entry) (id : CallId) (r : Reply) → IsPrefix before history
    → reply_in before id ≡ Some r → reply_in history id ≡ Some r
reply_in-IsPrefix before history id r begins h =
    subst (λ es. reply_in es id ≡ Some r) begins.1 (ap reply_of (outcome_in-append before begins.0 id r h) ∙ h)

-- the number of a legal entry of an agent is above those of the entries that it made before
IsLegal-rises : (origin : Origin) (history : List Entry) (s : State) (e : Entry) (agent : ℕ)
    → IsLegal AnyOne origin history s e → is_call_of agent e ≡ true
    → All (λ d. (id_of d).number < (id_of e).number) (calls_of agent history)
IsLegal-rises origin history s (Called id op result items) agent legal made =
    let P : ℕ → Type 0 = λ a. All (λ d. (id_of d).number < id.number) (calls_of a history) in
    subst P (eqb-true id.agent agent made) legal.1.number
IsLegal-rises origin history s (Gave id result items) agent legal made = absurd (cc)
IsLegal-rises origin history s (Looked id asked reply) agent legal made =
    let P : ℕ → Type 0 = λ a. All (λ d. (id_of d).number < id.number) (calls_of a history) in
    subst P (eqb-true id.agent agent made) legal.1.number

-- the numbers of what the agent made among the first n entries rise
numbers_rise-take : (origin : Origin) (history : List Entry) (agent : ℕ) (d : Entry) → IsRun origin history
    → (n : ℕ) → n ≤ length history
    → AllPairs (λ c e. (id_of c).number < (id_of e).number) (calls_of agent (take n history))
numbers_rise-take origin history agent d run zero within = λ i j c before inside. absurd (omega (arith, inside))
numbers_rise-take origin history agent d run (suc n) within =
    let R : Entry → Entry → Type 0 = λ c e. (id_of c).number < (id_of e).number in
    let p : Entry → Bool = is_call_of agent in
    let so_far : List Entry = take n history in
    let e : Entry = get_or history n d in
    let inside : n < length history = omega arith in
    let before : AllPairs R (calls_of agent so_far) = numbers_rise-take origin history agent d run n (omega arith) in
    let legal : IsLegal AnyOne origin so_far (after_history (opening origin) so_far) e =
    run n e (slice_get-get_or history n d inside) in
    let grown : take (suc n) history ≡ so_far ++ e ∷ [] =
    ap (λ m. take m history) (sym (add-one n)) ∙ take_more history n d inside in
    let split : calls_of agent (take (suc n) history) ≡ calls_of agent so_far ++ cond (p e) (e ∷ []) [] =
    ap (calls_of agent) grown ∙ filter-append p so_far (e ∷ []) in
    subst (AllPairs R) (sym split)
    (AllPairs-push_if R (calls_of agent so_far) e (p e) before
    (IsLegal-rises origin so_far (after_history (opening origin) so_far) e agent legal))

pub numbers_rise : (origin : Origin) (history : List Entry) (agent : ℕ) → IsRun origin history
    → AllPairs (λ c e. (id_of c).number < (id_of e).number) (calls_of agent history)
numbers_rise origin [] agent run = λ i j c before inside. absurd (omega (arith, inside))
numbers_rise origin (d ∷ history) agent run =
    let P : List Entry → Type 0 = λ es. AllPairs (λ c e. (id_of c).number < (id_of e).number) (calls_of agent es) in
    subst P (take_all (length (d ∷ history)) (d ∷ history) (omega arith))
    (numbers_rise-take origin (d ∷ history) agent d run (length (d ∷ history)) (omega arith))
