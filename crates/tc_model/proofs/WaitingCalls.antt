-- The requests that wait in a run: calls of its history that have no reply, each once.
use Rattle.std.proofs.Common.{◌≡◌, ◌∙◌, ◌<◌, ⊎_elim, ℕ, zero, suc, true, false, Some, None}
use Rattle.std.proofs.Common.{List, [], ◌∷◌, ◌++◌, All, AllPairs, Contains, get_or, length, slice_get, remove}
use Rattle.std.proofs.Common.{refl, sym, ap, subst, arith}
use Rattle.std.proofs.lemmas.Bool.{both_ways, cases_Bool}
use Rattle.std.proofs.lemmas.List.Elements.{All-nil, All-push, All-weaker, All-contains, Contains-push, Contains-append_left}
use Rattle.std.proofs.lemmas.List.Quantifiers.{all_pairs_push, all_pairs_remove}
use Rattle.std.proofs.lemmas.Option.{slice_get_within, get_or_from_slice_get, slice_get-get_or, same_Some}
use Rattle.tc_model.specs.Calls.{id_of, same_id, IsCallOf}
use Rattle.tc_model.specs.Choices.{AnyOne}
use Rattle.tc_model.specs.Entries.{IsAnswerOutcome, IsWellFormed}
use Rattle.tc_model.specs.Replies.{reply_of, reply_in}
use Rattle.tc_model.specs.Run.{HasCall, IsNext, IsAnswered, IsLegal, IsRun}
use Rattle.tc_model.specs.State.{State, Origin, opening, without_request, wants_of}
use Rattle.tc_model.specs.State.{after_call, after_answer, after_entry, after_history}
use Rattle.tc_model.specs.Tables.{IsServed}
use Rattle.tc_model.specs.Waiting.{HasRequest, AreWaiting}
use Rattle.tc_model.specs.declared.calls.CallId.{CallId}
use Rattle.tc_model.specs.declared.calls.Op.{Op}
use Rattle.tc_model.specs.declared.calls.Op.TheVariants.{Out, In, Rd, No}
use Rattle.tc_model.specs.declared.calls.Request.{Request}
use Rattle.tc_model.specs.declared.calls.Wants.TheVariants.{Take, Look, Absence}
use Rattle.tc_model.specs.declared.items.Item.{Item}
use Rattle.tc_model.specs.declared.outcomes.Outcome.{Outcome}
use Rattle.tc_model.specs.declared.outcomes.Outcome.TheVariants.{Took, Pending, Over}
use Rattle.tc_model.specs.declared.entries.Entry.{Entry}
use Rattle.tc_model.specs.declared.entries.Entry.TheVariants.{Called, Gave, Looked}
use Rattle.tc_lists.proofs.Elements.{All-remove}
use Rattle.tc_lists.proofs.Pairs.{AllPairs-tail, AllPairs-removed, Contains-remove}
use Rattle.tc_model.proofs.NextEntry.{same_id-true, same_id-at, same_id-back, call-id, answer-replies}
use Rattle.tc_model.proofs.NextEntry.{HasCall-grows, HasCall-push_cases, HasCall-other}
use Rattle.tc_model.proofs.NextEntry.{reply_in-other, reply_in-called, reply_in-given}
use Rattle.tc_model.proofs.Runs.{EachEntry-keeps, after_history-push}
use Rattle.tc_model.proofs.WellFormed.{legal-well_formed}

-- no two of the requests are of the same call
abbrev pub Differ : Request → Request → Type 0
Differ q r = same_id q.id r.id ≡ false

-- a request that stands behind another one is of another call
first-differs : (id : CallId) (q : Request) (requests : List Request) (place : ℕ) (r : Request)
    → AllPairs Differ (q ∷ requests) → slice_get requests place ≡ Some r → r.id ≡ id → same_id q.id id ≡ false
first-differs id q requests place r once at e =
    let inside : place < length requests = slice_get_within requests place r at in
    let there : get_or requests place q ≡ r = get_or_from_slice_get requests place r q at in
    subst (λ j. same_id q.id j ≡ false) (ap (λ (x : Request). x.id) there ∙ e) (once zero (suc place) q (omega arith) (omega arith))

-- where no two requests are of the same call, the first of a call is the one at its place
pub removed-is-without : (id : CallId) (requests : List Request) (place : ℕ) (r : Request)
    → AllPairs (λ q r. same_id q.id r.id ≡ false) requests → slice_get requests place ≡ Some r → r.id ≡ id
    → without_request id requests ≡ remove requests place
removed-is-without id [] place r once at e = absurd (cc)
removed-is-without id (q ∷ requests) zero r once at e =
    rw (same_id-at q.id id (ap (λ (x : Request). x.id) (same_Some q r at) ∙ e)) refl
removed-is-without id (q ∷ requests) (suc place) r once at e =
    rw (first-differs id q requests place r once at e)
    (ap (λ rs. q ∷ rs) (removed-is-without id requests place r (AllPairs-tail Differ q requests once) at e))

-- and it wants what that one does
pub wants-is : (id : CallId) (requests : List Request) (place : ℕ) (r : Request)
    → AllPairs (λ q r. same_id q.id r.id ≡ false) requests → slice_get requests place ≡ Some r → r.id ≡ id
    → wants_of id requests ≡ r.wants
wants-is id [] place r once at e = absurd (cc)
wants-is id (q ∷ requests) zero r once at e =
    let here : q ≡ r = same_Some q r at in
    rw (same_id-at q.id id (ap (λ (x : Request). x.id) here ∙ e)) (ap (λ (x : Request). x.wants) here)
wants-is id (q ∷ requests) (suc place) r once at e =
    rw (first-differs id q requests place r once at e)
    (wants-is id requests place r (AllPairs-tail Differ q requests once) at e)

waiting-none : AreWaiting [] []
waiting-none = record {
  called = All-nil (λ r. HasCall r.id []);
  unanswered = All-nil (λ r. reply_in [] r.id ≡ None);
  once = λ i j d before inside. absurd (omega (arith, inside));
  all = λ id has none. absurd (omega (arith, has.stands.1));
}

HasRequest-grows : (id : CallId) (requests : List Request) (r : Request)
    → HasRequest id requests → HasRequest id (requests ++ r ∷ [])
HasRequest-grows id requests r has = record {
  request = has.request;
  stands = Contains-append_left requests (r ∷ []) has.request has.stands;
  of = has.of;
}

-- a call's request is left where that of another call is removed
HasRequest-left : (id : CallId) (requests : List Request) (place : ℕ) (r : Request)
    → slice_get requests place ≡ Some r → same_id r.id id ≡ false
    → HasRequest id requests → HasRequest id (remove requests place)
HasRequest-left id requests place r at other has = record {
  request = has.request;
  stands =
      Contains-remove requests place has.request r at
      (λ same. both_ways (same_id r.id id) other (same_id-at r.id id (ap (λ (q : Request). q.id) same ∙ has.of)))
      has.stands;
  of = has.of;
}

module _ (history : List Entry) (e : Entry) (requests : List Request) (waiting : AreWaiting history requests) where
  waiting-called : All (λ r. HasCall r.id (history ++ e ∷ [])) requests
  waiting-called =
      All-weaker (λ r. HasCall r.id history) (λ r. HasCall r.id (history ++ e ∷ []))
      (λ r has. HasCall-grows r.id history e has) requests waiting.called

  -- a call that has no reply, and is none of the entry's, still has its request
  waiting-all : (id : CallId) → same_id (id_of e) id ≡ false → HasCall id history
      → reply_in (history ++ e ∷ []) id ≡ None → HasRequest id requests
  waiting-all id other has none = waiting.all id has (sym (reply_in-other history e id other) ∙ none)

  -- the entry is of none of the calls before
  module _ (newer : (id : CallId) → HasCall id history → same_id (id_of e) id ≡ false) where
    waiting-unanswered : All (λ r. reply_in (history ++ e ∷ []) r.id ≡ None) requests
    waiting-unanswered k d within =
        let id : CallId = (get_or requests k d).id in
        reply_in-other history e id (newer id (waiting.called k d within)) ∙ waiting.unanswered k d within

    -- an entry that leaves no call without a reply leaves the requests
    waiting-stays : ((id : CallId) → IsCallOf id e → reply_in (history ++ e ∷ []) id ≡ None → ⊥)
        → AreWaiting (history ++ e ∷ []) requests
    waiting-stays replied = record {
      called = waiting-called;
      unanswered = waiting-unanswered;
      once = waiting.once;
      all = λ id has none.
          ⊎_elim
          (λ old. waiting-all id (newer id old) old none)
          (λ new. absurd (replied id new none))
          (HasCall-push_cases id history e has);
    }

    -- a call that gets no reply adds its request
    waiting-grows : (r : Request) → IsCallOf r.id e
        → reply_in (history ++ e ∷ []) r.id ≡ None → AreWaiting (history ++ e ∷ []) (requests ++ r ∷ [])
    waiting-grows r call none =
        let at : id_of e ≡ r.id = call-id r.id e call in
        let has : HasCall r.id (history ++ e ∷ []) = record { entry = e; stands = Contains-push history e; call = call } in
        record {
          called = All-push (λ q. HasCall q.id (history ++ e ∷ [])) requests r waiting-called has;
          unanswered = All-push (λ q. reply_in (history ++ e ∷ []) q.id ≡ None) requests r waiting-unanswered none;
          once =
              all_pairs_push Differ requests r waiting.once
              (λ k d within.
              let id : CallId = (get_or requests k d).id in
              same_id-back r.id id (subst (λ i. same_id i id ≡ false) at (newer id (waiting.called k d within))));
          all = λ id some no.
              ⊎_elim
              (λ old. HasRequest-grows id requests r (waiting-all id (newer id old) old no))
              (λ new. record { request = r; stands = Contains-push requests r; of = sym at ∙ call-id id e new })
              (HasCall-push_cases id history e some);
        }

-- an answer removes the request of its call, which then has a reply
waiting-gives : (history : List Entry) (requests : List Request) (r : Request) (result : Outcome) (items : List Item)
    → AreWaiting history requests → All IsWellFormed history → Contains requests r → IsAnswerOutcome result
    → AreWaiting (history ++ Gave r.id result items ∷ []) (without_request r.id requests)
waiting-gives history requests r result items waiting well stands answer =
    let e : Entry = Gave r.id result items in
    let after : List Entry = history ++ e ∷ [] in
    let place : ℕ = stands.0 in
    let at : slice_get requests place ≡ Some r = slice_get-get_or requests place r stands.1 ∙ ap Some stands.2 in
    let left : List Request = remove requests place in
    let others : All (Differ r) left =
    AllPairs-removed Differ requests place r (λ p q. same_id-back p.id q.id) at waiting.once in
    let replied : reply_in after r.id ≡ reply_of result =
    reply_in-given history r.id result items well
    (All-contains (λ q. HasCall q.id history) requests r waiting.called stands)
    (All-contains (λ q. reply_in history q.id ≡ None) requests r waiting.unanswered stands) in
    subst (AreWaiting after) (sym (removed-is-without r.id requests place r waiting.once at refl))
    (record {
      called =
          All-remove (λ q. HasCall q.id after) requests place (waiting-called history e requests waiting);
      unanswered = λ k d within.
          reply_in-other history e (get_or left k d).id (others k d within)
          ∙ All-remove (λ q. reply_in history q.id ≡ None) requests place waiting.unanswered k d within;
      once = all_pairs_remove Differ requests place stands.1 waiting.once;
      all = λ id has none.
          ⊎_elim
          (λ (old : HasCall id history).
          ⊎_elim
          (λ (same : same_id r.id id ≡ true).
          let here : reply_in after r.id ≡ None =
          subst (λ i. reply_in after i ≡ None) (sym (same_id-true r.id id same)) none in
          absurd (answer-replies result answer (sym replied ∙ here)))
          (λ (other : same_id r.id id ≡ false).
          HasRequest-left id requests place r at other (waiting-all history e requests waiting id other old none))
          (cases_Bool (same_id r.id id)))
          (λ (new : ⊥). absurd new)
          (HasCall-push_cases id history e has);
    })

pub pending-answered : (id : CallId) (result : Outcome) (items : List Item) (s : State)
    → (after_answer id result items s).pending ≡ without_request id s.pending
pending-answered id (Took u) items s = refl
pending-answered id _ items s = refl

module _ (origin : Origin) (history : List Entry) (s : State) (waiting : AreWaiting history s.pending) where
  -- a call that gets its reply leaves the requests
  waiting-replied : (id : CallId) (op : Op) (result : Outcome) (items : List Item)
      → IsNext origin history id → (reply_of result ≡ None → ⊥)
      → AreWaiting (history ++ Called id op result items ∷ []) s.pending
  waiting-replied id op result items next some =
      waiting-stays history (Called id op result items) s.pending waiting
      (λ j. HasCall-other history id j next.number)
      (λ j call none.
      let here : reply_in (history ++ Called id op result items ∷ []) id ≡ None =
      subst (λ i. reply_in (history ++ Called id op result items ∷ []) i ≡ None) (sym call) none in
      some (sym (reply_in-called history id op result items next.number) ∙ here))

  -- an id that is next is of none of the calls before
  waiting-called_next : (id : CallId) (op : Op) (result : Outcome) (items : List Item)
      → IsNext origin history id → IsServed AnyOne origin s id op result items
      → AreWaiting (history ++ Called id op result items ∷ []) (after_call id op result items s).pending
  waiting-called_next id (Out t) Pending items next served = absurd served
  waiting-called_next id (In t) Pending items next served =
      let none = reply_in-called history id (In t) Pending items next.number in
      waiting-grows history (Called id (In t) Pending items) s.pending waiting
      (λ j. HasCall-other history id j next.number) (record { id = id; wants = Take; template = t }) refl none
  waiting-called_next id (Rd t) Pending items next served =
      let none = reply_in-called history id (Rd t) Pending items next.number in
      waiting-grows history (Called id (Rd t) Pending items) s.pending waiting
      (λ j. HasCall-other history id j next.number) (record { id = id; wants = Look; template = t }) refl none
  waiting-called_next id (No t) Pending items next served =
      let none = reply_in-called history id (No t) Pending items next.number in
      waiting-grows history (Called id (No t) Pending items) s.pending waiting
      (λ j. HasCall-other history id j next.number) (record { id = id; wants = Absence; template = t }) refl none
  waiting-called_next id _ Pending items next served = absurd served
  waiting-called_next id (In t) (Over phase tuple) items next served =
      waiting-replied id (In t) (Over phase tuple) items next (λ none. absurd (cc))
  waiting-called_next id (Rd t) (Over phase tuple) items next served =
      waiting-replied id (Rd t) (Over phase tuple) items next (λ none. absurd (cc))
  waiting-called_next id (No t) (Over phase tuple) items next served =
      waiting-replied id (No t) (Over phase tuple) items next (λ none. absurd (cc))
  waiting-called_next id (In t) _ items next served = absurd served
  waiting-called_next id (Rd t) _ items next served = absurd served
  waiting-called_next id (No t) _ items next served = absurd served
  waiting-called_next id op result items next served = waiting-replied id op result items next (λ none. absurd (cc))

  waiting-answered : (id : CallId) (result : Outcome) (items : List Item)
      → All IsWellFormed history → IsAnswered AnyOne origin s id result items → IsAnswerOutcome result
      → AreWaiting (history ++ Gave id result items ∷ []) (after_answer id result items s).pending
  waiting-answered id result items well answered answer =
      let r : Request = answered.request in
      rw (pending-answered id result items s)
      (subst (λ i. AreWaiting (history ++ Gave i result items ∷ []) (without_request i s.pending)) answered.asked
      (waiting-gives history s.pending r result items waiting well answered.chosen.0 answer))

  waiting-legal : (e : Entry) → All IsWellFormed history → IsLegal AnyOne origin history s e
      → AreWaiting (history ++ e ∷ []) (after_entry e s).pending
  waiting-legal (Called id op result items) well legal = waiting-called_next id op result items legal.1 legal.2
  waiting-legal (Gave id result items) well legal =
      let formed = legal-well_formed AnyOne origin s history (Gave id result items) legal in
      waiting-answered id result items well legal formed.0
  waiting-legal (Looked id asked reply) well legal =
      waiting-stays history (Looked id asked reply) s.pending waiting
      (λ j. HasCall-other history id j legal.1.number) (λ j call none. call)

-- in a run the requests that wait are the calls that have no reply yet, each once
pub waiting-run : (origin : Origin) (history : List Entry) → IsRun origin history
    → AreWaiting history (after_history (opening origin) history).pending
waiting-run origin history run =
    let begin : State = opening origin in
    let kept : All IsWellFormed history × AreWaiting history (after_history begin history).pending =
    EachEntry-keeps (IsLegal AnyOne origin) begin
    (λ es. All IsWellFormed es × AreWaiting es (after_history begin es).pending)
    (All-nil IsWellFormed, waiting-none)
    (λ before e so_far legal.
    let s : State = after_history begin before in (
      All-push IsWellFormed before e so_far.0 (legal-well_formed AnyOne origin s before e legal),
      subst (λ (t : State). AreWaiting (before ++ e ∷ []) t.pending) (sym (after_history-push begin before e))
          (waiting-legal origin before s so_far.1 e so_far.0 legal),
    ))
    history run in
    kept.1
