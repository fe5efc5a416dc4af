-- The entry of an agent that has a number.
use Rattle.std.proofs.Common.{◌≡◌, ℕ, ◌<◌, ◌≤◌, List, Contains, get_or, slice_get, refl, sym, ap, subst, ◌∙◌, ⊎_elim, arith}
use Rattle.std.proofs.lemmas.Bool.{cases_lt, eqb-true, false≢true}
use Rattle.std.proofs.lemmas.Bool.Decides.{Decides-eqb}
use Rattle.std.proofs.lemmas.List.{get_or_default}
use Rattle.std.proofs.lemmas.Option.{same_Some}
use Rattle.tc_lists.proofs.Places.{slice_get-Contains}
use Rattle.tc_desk.specs.Served.{HasCalled}
use Rattle.tc_model.specs.Calls.{id_of, is_call_of}
use Rattle.tc_model.specs.declared.calls.CallId.{CallId}
use Rattle.tc_model.specs.declared.calls.Op.{Op}
use Rattle.tc_model.specs.declared.entries.Entry.{Entry}
use Rattle.tc_model.specs.declared.entries.Entry.TheVariants.{Called, Gave, Looked}
use Rattle.tc_rows.specs.Made.{AreMade, HasNoEntry, IsEntryOf}
use Rattle.tc_rows.specs.Told.{HasOp}
use Rattle.tc_rows.specs.declared.made.Made.{Made}
use Rattle.tc_rows.proofs.Calls.{All-filter_at}

-- an id is its agent and its number
pub call_same : (i j : CallId) → i.agent ≡ j.agent → i.number ≡ j.number → i ≡ j
call_same i j agent number =
    ap (λ a. record { agent = a; number = i.number }) agent ∙ ap (λ n. record { agent = j.agent; number = n }) number

-- a call is an entry of its agent
pub called-own : (id : CallId) (op : Op) (history : List Entry) (has : HasCalled id op history)
    → IsEntryOf id.agent id.number history (Called id op has.result has.items)
called-own id op history has = record {
  stands = has.stands;
  by = (Decides-eqb id.agent id.agent).1 refl;
  number_is = refl;
}

-- the agent has one entry of a number
pub one-entry : (agent number : ℕ) (history : List Entry) (made : List Made) → AreMade agent history made → (e f : Entry)
    → IsEntryOf agent number history e → IsEntryOf agent number history f → e ≡ f
one-entry agent number history made are e f ise isf =
    let me : Made = record { number = (id_of e).number; place = ise.stands.0 } in
    let mf : Made = record { number = (id_of f).number; place = isf.stands.0 } in
    let he : Contains made me = are.all ise.stands.0 e (slice_get-Contains history e ise.stands) ise.by in
    let hf : Contains made mf = are.all isf.stands.0 f (slice_get-Contains history f isf.stands) isf.by in
    let same : (id_of e).number ≡ (id_of f).number = ise.number_is ∙ sym isf.number_is in
    let place : he.0 ≡ hf.0 =
    ⊎_elim
    (λ (less : he.0 < hf.0).
    absurd (omega (
      arith,
      (are.rise he.0 hf.0 me less hf.1).0,
      ap (λ (m : Made). m.number) he.2,
      ap (λ (m : Made). m.number) (get_or_default made hf.0 me mf hf.1 ∙ hf.2),
      same,
    )))
    (λ (from : hf.0 ≤ he.0).
    ⊎_elim
    (λ (more : hf.0 < he.0).
    absurd (omega (
      arith,
      (are.rise hf.0 he.0 mf more he.1).0,
      ap (λ (m : Made). m.number) hf.2,
      ap (λ (m : Made). m.number) (get_or_default made he.0 mf me he.1 ∙ he.2),
      same,
    )))
    (λ (to : he.0 ≤ hf.0). omega (arith, from, to))
    (cases_lt hf.0 he.0))
    (cases_lt he.0 hf.0) in
    let made_same : me ≡ mf =
    sym he.2 ∙ (get_or_default made he.0 me mf he.1 ∙ (ap (λ n. get_or made n mf) place ∙ hf.2)) in
    let there : ise.stands.0 ≡ isf.stands.0 = ap (λ (m : Made). m.place) made_same in
    same_Some e f
    (sym (slice_get-Contains history e ise.stands) ∙ (ap (slice_get history) there ∙ slice_get-Contains history f isf.stands))

-- the agent's entry of the number tells whether the history has the call with an operation
pub called-found : (id : CallId) (op : Op) (history : List Entry) (made : List Made) → AreMade id.agent history made → (e : Entry)
    → IsEntryOf id.agent id.number history e → (HasOp op e → HasCalled id op history) × (HasCalled id op history → HasOp op e)
called-found id op history made are (Called i other result items) is = (
  λ same.
      let id_is : i ≡ id = call_same i id (eqb-true i.agent id.agent is.by) is.number_is in
      record {
        result = result;
        items = items;
        stands = subst (λ o. Contains history (Called id o result items)) same
            (subst (λ j. Contains history (Called j other result items)) id_is is.stands);
      },
  λ has.
      let there : IsEntryOf id.agent id.number history (Called id op has.result has.items) = called-own id op history has in
      let same : Called i other result items ≡ Called id op has.result has.items =
      one-entry id.agent id.number history made are (Called i other result items) (Called id op has.result has.items) is there in
      cc,
)
called-found id op history made are (Gave i result items) is = (λ none. absurd none, λ has. absurd (false≢true is.by))
called-found id op history made are (Looked i asked reply) is = (
  λ none. absurd none,
  λ has.
      let there : IsEntryOf id.agent id.number history (Called id op has.result has.items) = called-own id op history has in
      let same : Looked i asked reply ≡ Called id op has.result has.items =
      one-entry id.agent id.number history made are (Looked i asked reply) (Called id op has.result has.items) is there in
      cc,
)

-- where the agent has no entry of the number, the history hasn't the call
pub none-called : (id : CallId) (op : Op) (history : List Entry) → HasNoEntry id.agent id.number history
    → HasCalled id op history → ⊥
none-called id op history never has =
    let own : IsEntryOf id.agent id.number history (Called id op has.result has.items) = called-own id op history has in
    All-filter_at (is_call_of id.agent) (λ e. (id_of e).number ≡ id.number → ⊥) history has.stands.0
    (Called id op has.result has.items) never (slice_get-Contains history (Called id op has.result has.items) has.stands) own.by refl
