-- An index stays one where the entries that it is told of are appended.
use Rattle.std.proofs.Common.{◌≡◌, ℕ, ◌<◌, Bool, true, false, cond, List, [], ◌∷◌, ◌++◌, All, Option, Some, None, length, get_or, refl, sym, ap, subst, ◌∙◌, ⊎_elim}
use Rattle.std.specs.Option.{MatchOption, is_some}
use Rattle.std.proofs.lemmas.Bool.{cases_Bool, both_ways, true≢false}
use Rattle.std.proofs.lemmas.List.Elements.{All-contains, Contains-push}
use Rattle.std.proofs.lemmas.Option.{get_or_from_slice_get}
use Rattle.tc_lists.proofs.Places.{slice_get_longer, slice_get_pushed}
use Rattle.tc_model.specs.Calls.{id_of, same_id, calls_of, IsCallOf}
use Rattle.tc_model.specs.Choices.{AnyOne}
use Rattle.tc_model.specs.Replies.{reply_in}
use Rattle.tc_model.specs.Run.{HasCall, IsRun, IsNext, IsAnswered}
use Rattle.tc_model.specs.State.{Origin, opening, after_history}
use Rattle.tc_model.specs.Waiting.{AreWaiting}
use Rattle.tc_model.specs.declared.calls.CallId.{CallId}
use Rattle.tc_model.specs.declared.calls.Op.{Op}
use Rattle.tc_model.specs.declared.calls.Request.{Request}
use Rattle.tc_model.specs.declared.items.Item.{Item}
use Rattle.tc_model.specs.declared.outcomes.Outcome.{Outcome}
use Rattle.tc_model.specs.declared.outcomes.Reply.{Reply}
use Rattle.tc_model.specs.declared.entries.Entry.{Entry}
use Rattle.tc_model.specs.declared.entries.Entry.TheVariants.{Called, Gave, Looked}
use Rattle.tc_model.proofs.NextEntry.{same_id-true, same_id-at, call-id, HasCall-grows, HasCall-push_cases, HasCall-other}
use Rattle.tc_model.proofs.NextEntry.{reply_in-other, reply_in-called, reply_in-given}
use Rattle.tc_model.proofs.Runs.{IsRun-well_formed}
use Rattle.tc_model.proofs.WaitingCalls.{waiting-run}
use Rattle.tc_calls.specs.Places.{reply_from, IsToldAt, IsIndex}

module _ (history : List Entry) (e : Entry) where
  -- what stands at a place for a call stays, where the entry is none of it
  told-stays : (id : CallId) → (IsCallOf id e → ⊥)
      → (HasCall id history → reply_in (history ++ e ∷ []) id ≡ reply_in history id)
      → (o : Option ℕ) → MatchOption o (HasCall id history → ⊥) (IsToldAt history id)
      → MatchOption o (HasCall id (history ++ e ∷ []) → ⊥) (IsToldAt (history ++ e ∷ []) id)
  told-stays id other same None none =
      λ has. ⊎_elim none other (HasCall-push_cases id history e has)
  told-stays id other same (Some place) told = record {
    called = HasCall-grows id history e told.called;
    entry = told.entry;
    stands = slice_get_longer history (e ∷ []) place told.entry told.stands;
    reply = told.reply ∙ sym (same told.called);
  }

  -- the entry is the last that is told of its call
  told-last : HasCall (id_of e) (history ++ e ∷ []) → reply_from e ≡ reply_in (history ++ e ∷ []) (id_of e)
      → IsToldAt (history ++ e ∷ []) (id_of e) (length history)
  told-last called reply = record {
    called = called;
    entry = e;
    stands = slice_get_pushed history e;
    reply = reply;
  }

  other-call : (id : CallId) → same_id (id_of e) id ≡ false → IsCallOf id e → ⊥
  other-call id other call = both_ways (same_id (id_of e) id) other (same_id-at (id_of e) id (call-id id e call))

  pub index-set : (f g : CallId → Option ℕ) → IsIndex f history
      → ((id : CallId) → g id ≡ cond (same_id (id_of e) id) (Some (length history)) (f id))
      → HasCall (id_of e) (history ++ e ∷ []) → reply_from e ≡ reply_in (history ++ e ∷ []) (id_of e)
      → IsIndex g (history ++ e ∷ [])
  index-set f g index sets called reply id =
      let P : Option ℕ → Type 0 = λ o. MatchOption o (HasCall id (history ++ e ∷ []) → ⊥) (IsToldAt (history ++ e ∷ []) id) in
      ⊎_elim
      (λ (same : same_id (id_of e) id ≡ true).
      let here : g id ≡ Some (length history) =
      sets id ∙ ap (λ b. cond b (Some (length history)) (f id)) same in
      subst P (sym here)
      (subst (λ i. IsToldAt (history ++ e ∷ []) i (length history)) (same_id-true (id_of e) id same) (told-last called reply)))
      (λ (other : same_id (id_of e) id ≡ false).
      let there : g id ≡ f id = sets id ∙ ap (λ b. cond b (Some (length history)) (f id)) other in
      subst P (sym there)
      (told-stays id (other-call id other) (λ has. reply_in-other history e id other) (f id) (index id)))
      (cases_Bool (same_id (id_of e) id))

-- an index has a place for a call just where the history has the call
pub index-has : (history : List Entry) (id : CallId) (r : Bool) (o : Option ℕ) → r ≡ is_some o
    → MatchOption o (HasCall id history → ⊥) (IsToldAt history id)
    → (r ≡ true → HasCall id history) × (HasCall id history → r ≡ true)
index-has history id r None is none = (λ yes. absurd (true≢false (sym yes ∙ is)), λ has. absurd (none has))
index-has history id r (Some place) is told = (λ yes. told.called, λ has. is)

-- what an index says of the place that it has for a call
pub index-at : (history : List Entry) (id : CallId) (o : Option ℕ) (place : ℕ) → Some place ≡ o
    → MatchOption o (HasCall id history → ⊥) (IsToldAt history id) → IsToldAt history id place
index-at history id o place is told =
    subst (λ p. MatchOption p (HasCall id history → ⊥) (IsToldAt history id)) (sym is) told

-- the entry at a place that is told of a call gives its reply
pub index-reply : (history : List Entry) (id : CallId) (place : ℕ) (e : Entry) → IsToldAt history id place
    → e ≡ get_or history place e → reply_from e ≡ reply_in history id
index-reply history id place e told at =
    ap reply_from (at ∙ get_or_from_slice_get history place told.entry e told.stands) ∙ told.reply

-- a look changes no place
pub index-looked : (history : List Entry) (id : CallId) (asked : ℕ) (reply : Option Reply) (f : CallId → Option ℕ)
    → All (λ d. (id_of d).number < id.number) (calls_of id.agent history)
    → IsIndex f history → IsIndex f (history ++ Looked id asked reply ∷ [])
index-looked history id asked reply f above index j =
    let e : Entry = Looked id asked reply in
    told-stays history e j (λ call. call)
    (λ has. reply_in-other history e j (HasCall-other history id j above has)) (f j) (index j)

module _ (origin : Origin) (history : List Entry) (f g : CallId → Option ℕ) (index : IsIndex f history) where
  pub index-called : (id : CallId) (op : Op) (result : Outcome) (items : List Item) → IsNext origin history id
      → ((j : CallId) → g j ≡ cond (same_id id j) (Some (length history)) (f j))
      → IsIndex g (history ++ Called id op result items ∷ [])
  index-called id op result items next sets =
      let e : Entry = Called id op result items in
      index-set history e f g index sets
      (record { entry = e; stands = Contains-push history e; call = refl })
      (sym (reply_in-called history id op result items next.number))

  -- what is answered is a call of the history without a reply
  answered-call : IsRun origin history → (id : CallId) (result : Outcome) (items : List Item)
      → IsAnswered AnyOne origin (after_history (opening origin) history) id result items
      → HasCall id history × (reply_in history id ≡ None)
  answered-call run id result items answered =
      let requests : List Request = (after_history (opening origin) history).pending in
      let waiting : AreWaiting history requests = waiting-run origin history run in
      let r : Request = answered.request in
      subst (λ i. HasCall i history × (reply_in history i ≡ None)) answered.asked (
        All-contains (λ q. HasCall q.id history) requests r waiting.called answered.chosen.0,
        All-contains (λ q. reply_in history q.id ≡ None) requests r waiting.unanswered answered.chosen.0,
      )

  -- an answered call has a place
  pub answered-place : IsRun origin history → (id : CallId) (result : Outcome) (items : List Item)
      → IsAnswered AnyOne origin (after_history (opening origin) history) id result items
      → f id ≡ None → ⊥
  answered-place run id result items answered none =
      subst (λ o. MatchOption o (HasCall id history → ⊥) (IsToldAt history id)) none (index id)
      (answered-call run id result items answered).0

  pub index-gave : IsRun origin history → (id : CallId) (result : Outcome) (items : List Item)
      → IsAnswered AnyOne origin (after_history (opening origin) history) id result items
      → ((j : CallId) → g j ≡ cond (same_id id j) (Some (length history)) (f j))
      → IsIndex g (history ++ Gave id result items ∷ [])
  index-gave run id result items answered sets =
      let e : Entry = Gave id result items in
      let waits = answered-call run id result items answered in
      index-set history e f g index sets (HasCall-grows id history e waits.0)
      (sym (reply_in-given history id result items (IsRun-well_formed origin history run) waits.0 waits.1))
