-- In a run each call has a reply that its operation may have.
use Rattle.std.proofs.Common.{◌≡◌, ℕ, ◌+◌, ◌<◌, ◌≤◌, ◌⊎◌, inl, inr, Bool, true, false, if◌then◌else◌, List, [], ◌∷◌, ◌++◌, Option, Some, None, All, Contains, take, drop, refl, sym, ap, ◌∙◌, subst, arith, ⊎_elim}
use Rattle.std.specs.List.{slice_get}
use Rattle.std.proofs.lemmas.Bool.{cases_eq, cases_lt, true≢false}
use Rattle.std.proofs.lemmas.List.{take-append-drop, take_more}
use Rattle.std.proofs.lemmas.List.Elements.{All-nil, All-cons, All-tail, All-push, All-weaker, All-contains, Contains-append_left, Contains-append_right, Contains-push}
use Rattle.std.proofs.lemmas.Option.{none-some, same_Some}
use Rattle.tc_lists.proofs.Places.{slice_get-take, Contains-slice_get, slice_get-Contains}
use Rattle.tc_term.specs.Tree.{Tree}
use Rattle.tc_model.specs.Calls.{same_id}
use Rattle.tc_model.specs.Choices.{AnyOne}
use Rattle.tc_model.specs.Replies.{reply_of, reply_in, outcome_in, outcome_given, or_given}
use Rattle.tc_model.specs.Run.{HasCall, IsAnswered, IsFirstRun, IsLegal, IsRun}
use Rattle.tc_model.specs.State.{State, Origin, opening, without_request, reached_by, after_call, after_entry, after_history}
use Rattle.tc_model.specs.Tables.{IsServed, IsGivenTuple, IsToldAbsence, IsGivenFor}
use Rattle.tc_model.specs.declared.asks.Ask.{Ask}
use Rattle.tc_model.specs.declared.asks.Ask.TheVariants as ask
use Rattle.tc_model.specs.declared.calls.CallId.{CallId}
use Rattle.tc_model.specs.declared.calls.Op.{Op}
use Rattle.tc_model.specs.declared.calls.Op.TheVariants.{Out, In, Rd, Inp, Rdp, No, Nop, SetSpec, GetSpec}
use Rattle.tc_model.specs.declared.calls.Request.{Request}
use Rattle.tc_model.specs.declared.calls.Wants.{Wants}
use Rattle.tc_model.specs.declared.calls.Wants.TheVariants.{Take, Look, Absence}
use Rattle.tc_model.specs.declared.items.Item.{Item}
use Rattle.tc_model.specs.declared.outcomes.Outcome.{Outcome}
use Rattle.tc_model.specs.declared.outcomes.Outcome.TheVariants.{Done, Took, NoTuple, Absent, Found, Pending, Spec, Over}
use Rattle.tc_model.specs.declared.outcomes.Reply.{Reply}
use Rattle.tc_model.specs.declared.outcomes.Reply.TheVariants as reply
use Rattle.tc_model.specs.declared.entries.Entry.{Entry}
use Rattle.tc_model.specs.declared.entries.Entry.TheVariants.{Called, Gave, Looked}
use Rattle.tc_model.proofs.Histories.{same_id-self, reply_in-IsPrefix}
use Rattle.tc_model.proofs.NextEntry.{same_id-true, HasCall-other, reply_in-called}
use Rattle.tc_model.proofs.Runs.{EachEntry-IsPrefix, EachEntry-keeps, IsRun-first, after_history-push}
use Rattle.tc_model.proofs.WaitingCalls.{pending-answered}
use Rattle.tc_desk.specs.Fits.{FitsPut, FitsRequest, FitsSearch, FitsAbsence, FitsTest, FitsReplacing, FitsReading, FitsReply, MayWait}
use Rattle.tc_desk.specs.Operands.{Operand, OpOf, Sound, TooBig, NotGround, Faulty}
use Rattle.tc_desk.specs.Served.{IsCalled}

-- the reply fits the operation
abbrev pub FitsOp : Op → Reply → Type 0
FitsOp (Out t) r = FitsPut r
FitsOp (In t) r = FitsRequest t r
FitsOp (Rd t) r = FitsRequest t r
FitsOp (Inp t) r = FitsSearch t r
FitsOp (Rdp t) r = FitsSearch t r
FitsOp (No t) r = FitsAbsence r
FitsOp (Nop t) r = FitsTest t r
FitsOp (SetSpec clauses) r = FitsReplacing r
FitsOp GetSpec r = FitsReading r

-- the reply fits a request
abbrev pub FitsWants : Wants → Tree → Reply → Type 0
FitsWants Take t r = FitsRequest t r
FitsWants Look t r = FitsRequest t r
FitsWants Absence t r = FitsAbsence r

-- the operation waits by a request that wants this of this template
abbrev pub WaitsFor : Op → Wants → Tree → Type 0
WaitsFor (In t) Take u = u ≡ t
WaitsFor (Rd t) Look u = u ≡ t
WaitsFor (No t) Absence u = u ≡ t
WaitsFor op wants u = ⊥

-- the operation may have to wait
abbrev pub MayWaitOp : Op → Type 0
MayWaitOp (In t) = Unit {0}
MayWaitOp (Rd t) = Unit {0}
MayWaitOp (No t) = Unit {0}
MayWaitOp op = ⊥

module _ (origin : Origin) (s : State) (id : CallId) (items : List Item) (r : Reply) where
  -- the reply to a call that was served at once
  served-fits : (op : Op) (result : Outcome) → IsServed AnyOne origin s id op result items → reply_of result ≡ Some r → FitsOp op r
  served-fits (Out t) Done served e = subst FitsPut (same_Some reply.Done r e) tt
  served-fits (Out t) (Over phase tuple) served e = subst FitsPut (same_Some (reply.OverBudget phase) r e) tt
  served-fits (In t) (Over phase tuple) served e = subst (FitsRequest t) (same_Some (reply.OverBudget phase) r e) tt
  served-fits (In t) Pending served e = absurd (none-some r e)
  served-fits (Rd t) (Over phase tuple) served e = subst (FitsRequest t) (same_Some (reply.OverBudget phase) r e) tt
  served-fits (Rd t) Pending served e = absurd (none-some r e)
  served-fits (Inp t) (Took u) served e = subst (FitsSearch t) (same_Some (reply.Tuple u) r e) served.0.1
  served-fits (Inp t) NoTuple served e = subst (FitsSearch t) (same_Some reply.NoTuple r e) tt
  served-fits (Inp t) (Over phase tuple) served e = subst (FitsSearch t) (same_Some (reply.OverBudget phase) r e) tt
  served-fits (Rdp t) (Took u) served e = subst (FitsSearch t) (same_Some (reply.Tuple u) r e) served.0.1
  served-fits (Rdp t) NoTuple served e = subst (FitsSearch t) (same_Some reply.NoTuple r e) tt
  served-fits (Rdp t) (Over phase tuple) served e = subst (FitsSearch t) (same_Some (reply.OverBudget phase) r e) tt
  served-fits (No t) (Over phase tuple) served e = subst FitsAbsence (same_Some (reply.OverBudget phase) r e) tt
  served-fits (No t) Pending served e = absurd (none-some r e)
  served-fits (Nop t) Absent served e = subst (FitsTest t) (same_Some reply.Absent r e) tt
  served-fits (Nop t) (Found u) served e = subst (FitsTest t) (same_Some (reply.Found u) r e) served.0.1
  served-fits (Nop t) (Over phase tuple) served e = subst (FitsTest t) (same_Some (reply.OverBudget phase) r e) tt
  served-fits (SetSpec clauses) Done served e = subst FitsReplacing (same_Some reply.Done r e) tt
  served-fits GetSpec (Spec text) served e = subst FitsReading (same_Some (reply.Spec text) r e) tt
  served-fits _ _ served e = absurd served

  tuple-fits : (q : Request) (result : Outcome) → IsGivenTuple AnyOne origin s q result items → reply_of result ≡ Some r → FitsRequest q.template r
  tuple-fits q (Took u) given e = subst (FitsRequest q.template) (same_Some (reply.Tuple u) r e) given.0.1
  tuple-fits q (Over phase tuple) given e = subst (FitsRequest q.template) (same_Some (reply.OverBudget phase) r e) tt
  tuple-fits q _ given e = absurd given

  absence-fits : (q : Request) (result : Outcome) → IsToldAbsence AnyOne origin s q result items → reply_of result ≡ Some r → FitsAbsence r
  absence-fits q Absent given e = subst FitsAbsence (same_Some reply.Absent r e) tt
  absence-fits q (Over phase tuple) given e = subst FitsAbsence (same_Some (reply.OverBudget phase) r e) tt
  absence-fits q _ given e = absurd given

  -- the reply to a request that waited
  given-fits : (wants : Wants) (q : Request) (result : Outcome) → IsGivenFor AnyOne origin s wants q result items → reply_of result ≡ Some r
      → FitsWants wants q.template r
  given-fits Take q result given e = tuple-fits q result given e
  given-fits Look q result given e = tuple-fits q result given e
  given-fits Absence q result given e = absence-fits q result given e

-- a call that has no reply at once waits
served-waits : (origin : Origin) (s : State) (id : CallId) (items : List Item) (op : Op) (result : Outcome)
    → IsServed AnyOne origin s id op result items → reply_of result ≡ None → MayWaitOp op
served-waits origin s id items op Done served e = absurd (none-some reply.Done (sym e))
served-waits origin s id items op (Took u) served e = absurd (none-some (reply.Tuple u) (sym e))
served-waits origin s id items op NoTuple served e = absurd (none-some reply.NoTuple (sym e))
served-waits origin s id items op Absent served e = absurd (none-some reply.Absent (sym e))
served-waits origin s id items op (Found u) served e = absurd (none-some (reply.Found u) (sym e))
served-waits origin s id items op (Spec text) served e = absurd (none-some (reply.Spec text) (sym e))
served-waits origin s id items op (Over phase tuple) served e = absurd (none-some (reply.OverBudget phase) (sym e))
served-waits origin s id items (In t) Pending served e = tt
served-waits origin s id items (Rd t) Pending served e = tt
served-waits origin s id items (No t) Pending served e = tt
served-waits origin s id items _ Pending served e = absurd served

-- the history has the call of the request, which waits by it
record Asked (history : List Entry) (q : Request) : Type 0 where
  op : Op
  result : Outcome
  items : List Item
  stands : Contains history (Called q.id op result items)
  waits : WaitsFor op q.wants q.template

Asked-longer : (history more : List Entry) (q : Request) → Asked history q → Asked (history ++ more) q
Asked-longer history more q h = record {
  op = h.op;
  result = h.result;
  items = h.items;
  stands = Contains-append_left history more _ h.stands;
  waits = h.waits;
}

module _ (P : Request → Type 0) where
  one-of : (b : Bool) (xs ys : List Request) → All P xs → All P ys → All P (if b then xs else ys)
  one-of true xs ys all others = all
  one-of false xs ys all others = others

  without-all : (id : CallId) (rs : List Request) → All P rs → All P (without_request id rs)
  without-all id [] all = all
  without-all id (r ∷ rs) all =
      one-of (same_id r.id id) rs (r ∷ without_request id rs) (All-tail P r rs all)
      (All-cons P r (without_request id rs) (all 0 r (omega arith)) (without-all id rs (All-tail P r rs all)))

module _ (history : List Entry) (id : CallId) (items : List Item) (s : State) where
  reached-asked : (op : Op) (result : Outcome) → All (Asked (history ++ Called id op result items ∷ [])) s.pending
      → All (Asked (history ++ Called id op result items ∷ [])) (reached_by id op result items s).pending
  reached-asked (Out t) result all = all
  reached-asked (Inp t) result all = all
  reached-asked (Rdp t) result all = all
  reached-asked (Nop t) result all = all
  reached-asked (SetSpec clauses) result all = all
  reached-asked GetSpec result all = all
  reached-asked (In t) result all =
      let e : Entry = Called id (In t) result items in
      let q : Request = record { id = id; wants = Take; template = t } in
      let asked : Asked (history ++ e ∷ []) q = record { op = In t; result = result; items = items; stands = Contains-push history e; waits = refl } in
      All-push (Asked (history ++ e ∷ [])) s.pending q all asked
  reached-asked (Rd t) result all =
      let e : Entry = Called id (Rd t) result items in
      let q : Request = record { id = id; wants = Look; template = t } in
      let asked : Asked (history ++ e ∷ []) q = record { op = Rd t; result = result; items = items; stands = Contains-push history e; waits = refl } in
      All-push (Asked (history ++ e ∷ [])) s.pending q all asked
  reached-asked (No t) result all =
      let e : Entry = Called id (No t) result items in
      let q : Request = record { id = id; wants = Absence; template = t } in
      let asked : Asked (history ++ e ∷ []) q = record { op = No t; result = result; items = items; stands = Contains-push history e; waits = refl } in
      All-push (Asked (history ++ e ∷ [])) s.pending q all asked

  call-asked : (op : Op) (result : Outcome) → All (Asked (history ++ Called id op result items ∷ [])) s.pending
      → All (Asked (history ++ Called id op result items ∷ [])) (after_call id op result items s).pending
  call-asked op (Over phase tuple) all = all
  call-asked op Done all = reached-asked op Done all
  call-asked op (Took u) all = reached-asked op (Took u) all
  call-asked op NoTuple all = reached-asked op NoTuple all
  call-asked op Absent all = reached-asked op Absent all
  call-asked op (Found u) all = reached-asked op (Found u) all
  call-asked op Pending all = reached-asked op Pending all
  call-asked op (Spec text) all = reached-asked op (Spec text) all

entry-asked : (history : List Entry) (s : State) (e : Entry) → All (Asked (history ++ e ∷ [])) s.pending
    → All (Asked (history ++ e ∷ [])) (after_entry e s).pending
entry-asked history s (Called id op result items) all = call-asked history id items s op result all
entry-asked history s (Gave id result items) all =
    let P : Request → Type 0 = Asked (history ++ Gave id result items ∷ []) in
    subst (All P) (sym (pending-answered id result items s)) (without-all P id s.pending all)
entry-asked history s (Looked id asked told) all = all

-- in a run each request that waits is of a call that waits by it
asked-run : (origin : Origin) (history : List Entry) → IsRun origin history → All (Asked history) (after_history (opening origin) history).pending
asked-run origin history run =
    let begin : State = opening origin in
    EachEntry-keeps (IsLegal AnyOne origin) begin
    (λ es. All (Asked es) (after_history begin es).pending)
    (All-nil (Asked []))
    (λ before e so_far legal.
    let s : State = after_history begin before in
    subst (λ (t : State). All (Asked (before ++ e ∷ [])) t.pending) (sym (after_history-push begin before e))
    (entry-asked before s e
    (All-weaker (Asked before) (Asked (before ++ e ∷ [])) (λ q h. Asked-longer before (e ∷ []) q h) s.pending so_far)))
    history run

-- where a reply stands
abbrev IsToldBy : List Entry → CallId → Reply → Type 0
IsToldBy history id r =
    ((op : Op) × (result : Outcome) × (items : List Item) × Contains history (Called id op result items) × (reply_of result ≡ Some r))
    ⊎ ((result : Outcome) × (items : List Item) × Contains history (Gave id result items) × (reply_of result ≡ Some r))

abbrev IsGivenBy : List Entry → CallId → Reply → Type 0
IsGivenBy history id r = (result : Outcome) × (items : List Item) × Contains history (Gave id result items) × (reply_of result ≡ Some r)

head-in : (e : Entry) (es : List Entry) → Contains (e ∷ es) e
head-in e es = (0, omega arith, refl)

tail-in : (e : Entry) (es : List Entry) (x : Entry) → Contains es x → Contains (e ∷ es) x
tail-in e es x h = Contains-append_right (e ∷ []) es x h

told-behind : (e : Entry) (es : List Entry) (id : CallId) (r : Reply) → IsToldBy es id r → IsToldBy (e ∷ es) id r
told-behind e es id r (inl h) = inl (h.0, h.1, h.2, tail-in e es _ h.3, h.4)
told-behind e es id r (inr h) = inr (h.0, h.1, tail-in e es _ h.2, h.3)

given-behind : (e : Entry) (es : List Entry) (id : CallId) (r : Reply) → IsGivenBy es id r → IsGivenBy (e ∷ es) id r
given-behind e es id r h = (h.0, h.1, tail-in e es _ h.2, h.3)

given-here : (i : CallId) (result : Outcome) (items : List Item) (es : List Entry) (id : CallId) (r : Reply) (b : Bool) → same_id i id ≡ b
    → (reply_of (outcome_given es id) ≡ Some r → IsGivenBy es id r)
    → reply_of (if b then result else outcome_given es id) ≡ Some r → IsGivenBy (Gave i result items ∷ es) id r
given-here i result items es id r true same behind e =
    (result, items, subst (λ j. Contains (Gave i result items ∷ es) (Gave j result items)) (same_id-true i id same) (head-in (Gave i result items) es), e)
given-here i result items es id r false same behind e = given-behind (Gave i result items) es id r (behind e)

given-by : (es : List Entry) (id : CallId) (r : Reply) → reply_of (outcome_given es id) ≡ Some r → IsGivenBy es id r
given-by [] id r e = absurd (none-some r e)
given-by (Called i op result items ∷ es) id r e = given-behind (Called i op result items) es id r (given-by es id r e)
given-by (Looked i asked told ∷ es) id r e = given-behind (Looked i asked told) es id r (given-by es id r e)
given-by (Gave i result items ∷ es) id r e = given-here i result items es id r (same_id i id) refl (given-by es id r) e

told-given : (e : Entry) (es : List Entry) (id : CallId) (r : Reply) → IsGivenBy es id r → IsToldBy (e ∷ es) id r
told-given e es id r h = inr (h.0, h.1, tail-in e es _ h.2, h.3)

told-called : (i : CallId) (op : Op) (result : Outcome) (items : List Item) (es : List Entry) (id : CallId) (r : Reply) → same_id i id ≡ true
    → reply_of result ≡ Some r → IsToldBy (Called i op result items ∷ es) id r
told-called i op result items es id r same e =
    inl (op, result, items, subst (λ j. Contains (Called i op result items ∷ es) (Called j op result items)) (same_id-true i id same) (head-in (Called i op result items) es), e)

told-or_given : (i : CallId) (op : Op) (result : Outcome) (items : List Item) (es : List Entry) (id : CallId) (r : Reply) → same_id i id ≡ true
    → reply_of (or_given result (outcome_given es id)) ≡ Some r → IsToldBy (Called i op result items ∷ es) id r
told-or_given i op Pending items es id r same e = told-given (Called i op Pending items) es id r (given-by es id r e)
told-or_given i op Done items es id r same e = told-called i op Done items es id r same e
told-or_given i op (Took u) items es id r same e = told-called i op (Took u) items es id r same e
told-or_given i op NoTuple items es id r same e = told-called i op NoTuple items es id r same e
told-or_given i op Absent items es id r same e = told-called i op Absent items es id r same e
told-or_given i op (Found u) items es id r same e = told-called i op (Found u) items es id r same e
told-or_given i op (Spec text) items es id r same e = told-called i op (Spec text) items es id r same e
told-or_given i op (Over phase tuple) items es id r same e = told-called i op (Over phase tuple) items es id r same e

told-here : (i : CallId) (op : Op) (result : Outcome) (items : List Item) (es : List Entry) (id : CallId) (r : Reply) (b : Bool) → same_id i id ≡ b
    → (reply_in es id ≡ Some r → IsToldBy es id r)
    → reply_of (if b then or_given result (outcome_given es id) else outcome_in es id) ≡ Some r → IsToldBy (Called i op result items ∷ es) id r
told-here i op result items es id r true same behind e = told-or_given i op result items es id r same e
told-here i op result items es id r false same behind e = told-behind (Called i op result items) es id r (behind e)

told-by : (es : List Entry) (id : CallId) (r : Reply) → reply_in es id ≡ Some r → IsToldBy es id r
told-by [] id r e = absurd (none-some r e)
told-by (Called i op result items ∷ es) id r e = told-here i op result items es id r (same_id i id) refl (told-by es id r) e
told-by (Gave i result items ∷ es) id r e = told-behind (Gave i result items) es id r (told-by es id r e)
told-by (Looked i asked told ∷ es) id r e = told-behind (Looked i asked told) es id r (told-by es id r e)

no-reply : (o : Option Reply) → ((r : Reply) → o ≡ Some r → ⊥) → o ≡ None
no-reply None never = refl
no-reply (Some r) never = absurd (never r refl)

abbrev op_in : Entry → Op
op_in (Called id op result items) = op
op_in (Gave id result items) = GetSpec
op_in (Looked id asked told) = GetSpec

module _ (origin : Origin) (history : List Entry) (run : IsRun origin history) (id : CallId) where
  -- no call stands behind another one of its id
  called-twice : (op other : Op) (result told : Outcome) (items more : List Item) (j k : ℕ) → slice_get history j ≡ Some (Called id op result items)
      → slice_get history k ≡ Some (Called id other told more) → j < k → ⊥
  called-twice op other result told items more j k first second before =
      let so_far : List Entry = take k history in
      let legal : IsLegal AnyOne origin so_far (after_history (opening origin) so_far) (Called id other told more) = run k (Called id other told more) second in
      let has : HasCall id so_far = record {
        entry = Called id op result items;
        stands = Contains-slice_get so_far j (Called id op result items) (slice_get-take history k j (Called id op result items) before first);
        call = refl;
      } in
      true≢false (sym (same_id-self id) ∙ HasCall-other so_far id id legal.1.number has)

  called-once : (op other : Op) (result told : Outcome) (items more : List Item) → Contains history (Called id op result items)
      → Contains history (Called id other told more) → op ≡ other
  called-once op other result told items more first second =
      let a = slice_get-Contains history (Called id op result items) first in
      let b = slice_get-Contains history (Called id other told more) second in
      ⊎_elim
      (λ (same : first.0 ≡ second.0).
      ap op_in (same_Some (Called id op result items) (Called id other told more) (sym a ∙ ap (slice_get history) same ∙ b)))
      (λ (differ : first.0 ≡ second.0 → ⊥).
      ⊎_elim
      (λ (before : first.0 < second.0). absurd (called-twice op other result told items more first.0 second.0 a b before))
      (λ (behind : second.0 ≤ first.0).
      absurd (called-twice other op told result more items second.0 first.0 b a (omega (arith, behind, differ))))
      (cases_lt first.0 second.0))
      (cases_eq first.0 second.0)

  take-run : (k : ℕ) → IsRun origin (take k history)
  take-run k = EachEntry-IsPrefix (IsLegal AnyOne origin) (opening origin) (take k history) history (drop k history, take-append-drop k history) run

  waits-fits : (op : Op) (wants : Wants) (t : Tree) (r : Reply) → WaitsFor op wants t → FitsWants wants t r → FitsOp op r
  waits-fits (In u) Take t r waits fits = subst (λ v. FitsRequest v r) waits fits
  waits-fits (Rd u) Look t r waits fits = subst (λ v. FitsRequest v r) waits fits
  waits-fits (No u) Absence t r waits fits = fits
  waits-fits _ _ t r waits fits = absurd waits

  module _ (op : Op) (result : Outcome) (items : List Item) (stands : Contains history (Called id op result items)) where
    gave-fits : (r : Reply) (told : Outcome) (more : List Item) → Contains history (Gave id told more) → reply_of told ≡ Some r → FitsOp op r
    gave-fits r told more gave e =
        let j : ℕ = gave.0 in
        let so_far : List Entry = take j history in
        let s : State = after_history (opening origin) so_far in
        let legal : IsAnswered AnyOne origin s id told more = run j (Gave id told more) (slice_get-Contains history (Gave id told more) gave) in
        let q : Request = legal.request in
        let asked : Asked so_far q = All-contains (Asked so_far) s.pending q (asked-run origin so_far (take-run j)) legal.chosen.0 in
        let early : Contains so_far (Called id asked.op asked.result asked.items) =
        subst (λ i. Contains so_far (Called i asked.op asked.result asked.items)) legal.asked asked.stands in
        let whole : Contains history (Called id asked.op asked.result asked.items) =
        subst (λ es. Contains es (Called id asked.op asked.result asked.items)) (take-append-drop j history)
        (Contains-append_left so_far (drop j history) (Called id asked.op asked.result asked.items) early) in
        subst (λ o. FitsOp o r) (called-once asked.op op asked.result result asked.items items whole stands)
        (waits-fits asked.op q.wants q.template r asked.waits (given-fits origin s id more r q.wants q told legal.given e))

    pub reply-fits : (r : Reply) → reply_in history id ≡ Some r → FitsOp op r
    reply-fits r e =
        ⊎_elim
        (λ (called : (other : Op) × (told : Outcome) × (more : List Item) × Contains history (Called id other told more) × (reply_of told ≡ Some r)).
        let k : ℕ = called.3.0 in
        let so_far : List Entry = take k history in
        let legal : IsLegal AnyOne origin so_far (after_history (opening origin) so_far) (Called id called.0 called.1 called.2) =
        run k (Called id called.0 called.1 called.2) (slice_get-Contains history (Called id called.0 called.1 called.2) called.3) in
        subst (λ o. FitsOp o r) (called-once called.0 op called.1 result called.2 items called.3 stands)
        (served-fits origin (after_history (opening origin) so_far) id called.2 r called.0 called.1 legal.2 called.4))
        (λ (gave : IsGivenBy history id r). gave-fits r gave.0 gave.1 gave.2 gave.3)
        (told-by history id r e)

    -- a call that has no reply may have to wait
    pub none-waits : reply_in history id ≡ None → MayWaitOp op
    none-waits none =
        let k : ℕ = stands.0 in
        let e : Entry = Called id op result items in
        let so_far : List Entry = take k history in
        let s : State = after_history (opening origin) so_far in
        let legal : IsLegal AnyOne origin so_far s e = run k e (slice_get-Contains history e stands) in
        let grown : take (k + 1) history ≡ so_far ++ e ∷ [] = take_more history k e stands.1 ∙ ap (λ x. so_far ++ x ∷ []) stands.2 in
        served-waits origin s id items op result legal.2
        (no-reply (reply_of result)
        (λ r some.
        none-some r
        (sym none
        ∙ reply_in-IsPrefix (take (k + 1) history) history id r (drop (k + 1) history, take-append-drop (k + 1) history)
        (ap (λ es. reply_in es id) grown ∙ reply_in-called so_far id op result items legal.1.number ∙ some))))

abbrev sound_or : Operand → Op
sound_or (Sound o) = o
sound_or TooBig = GetSpec
sound_or NotGround = GetSpec
sound_or (Faulty bad) = GetSpec

sound-same : (o p : Op) → ◌≡◌ {A = Operand} (Sound o) (Sound p) → o ≡ p
sound-same o p e = ap sound_or e

-- what fits the operation fits the ask
fits-ask : (a : Ask) (op : Op) (r : Reply) → OpOf a (Sound op) → FitsOp op r → FitsReply a r
fits-ask (ask.Out t) op r is fits = subst (λ o. FitsOp o r) is.2 fits
fits-ask (ask.In t) op r is fits = subst (λ o. FitsOp o r) is.1 fits
fits-ask (ask.Rd t) op r is fits = subst (λ o. FitsOp o r) is.1 fits
fits-ask (ask.Inp t) op r is fits = subst (λ o. FitsOp o r) is.1 fits
fits-ask (ask.Rdp t) op r is fits = subst (λ o. FitsOp o r) is.1 fits
fits-ask (ask.No t) op r is fits = subst (λ o. FitsOp o r) is.1 fits
fits-ask (ask.Nop t) op r is fits = subst (λ o. FitsOp o r) is.1 fits
fits-ask (ask.SetSpec t) op r is fits = subst (λ o. FitsOp o r) is.1.is fits
fits-ask ask.GetSpec op r is fits = subst (λ o. FitsOp o r) (sound-same op GetSpec is) fits

waits-ask : (a : Ask) (op : Op) → OpOf a (Sound op) → MayWaitOp op → MayWait a
waits-ask (ask.Out t) op is waits = subst MayWaitOp is.2 waits
waits-ask (ask.In t) op is waits = tt
waits-ask (ask.Rd t) op is waits = tt
waits-ask (ask.No t) op is waits = tt
waits-ask (ask.Inp t) op is waits = subst MayWaitOp is.1 waits
waits-ask (ask.Rdp t) op is waits = subst MayWaitOp is.1 waits
waits-ask (ask.Nop t) op is waits = subst MayWaitOp is.1 waits
waits-ask (ask.SetSpec t) op is waits = subst MayWaitOp is.1.is waits
waits-ask ask.GetSpec op is waits = subst MayWaitOp (sound-same op GetSpec is) waits

module _ (origin : Origin) (history : List Entry) (id : CallId) (a : Ask) (run : IsFirstRun origin history) (called : IsCalled history id a) where
  pub reply-fits_ask : (r : Reply) → reply_in history id ≡ Some r → FitsReply a r
  reply-fits_ask r e =
      fits-ask a called.op r called.is
      (reply-fits origin history (IsRun-first origin history run) id called.op called.called.result called.called.items called.called.stands r e)

  pub none-waits_ask : reply_in history id ≡ None → MayWait a
  none-waits_ask none =
      waits-ask a called.op called.is
      (none-waits origin history (IsRun-first origin history run) id called.op called.called.result called.called.items called.called.stands none)
