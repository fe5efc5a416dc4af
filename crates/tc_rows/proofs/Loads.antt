-- What an entry adds to the load of a centre.
use Rattle.std.proofs.Common.{◌≡◌, ℕ, zero, suc, ◌+◌, ◌*◌, ◌<◌, ◌≤◌, true, false, cond, List, [], ◌∷◌, ◌++◌}
use Rattle.std.proofs.Common.{Some, length, slice_get, take, refl, sym, ap, subst, ◌∙◌, arith}
use Rattle.std.proofs.lemmas.List.{length_push}
use Rattle.std.proofs.lemmas.List.Sums.{sum_by-append, sum_by-cons}
use Rattle.std.proofs.lemmas.Option.{none-some, same_Some}
use Rattle.tc_lists.proofs.Places.{slice_get-Contains}
use Rattle.tc_model.specs.Calls.{same_id}
use Rattle.tc_model.specs.Choices.{AnyOne}
use Rattle.tc_model.specs.Entries.{IsFull, pending_after, weight, weight_of}
use Rattle.tc_model.specs.Run.{IsLegal}
use Rattle.tc_model.specs.State.{State, Origin, after_call, after_entry, after_history, opening, reached_by}
use Rattle.tc_model.specs.State.{without_request}
use Rattle.tc_model.specs.declared.calls.CallId.{CallId}
use Rattle.tc_model.specs.declared.calls.Op.{Op}
use Rattle.tc_model.specs.declared.calls.Op.TheVariants.{Out, In, Rd, Inp, Rdp, No, Nop, SetSpec, GetSpec}
use Rattle.tc_model.specs.declared.calls.Request.{Request}
use Rattle.tc_model.specs.declared.calls.Wants.TheVariants.{Take, Look, Absence}
use Rattle.tc_model.specs.declared.entries.Entry.{Entry}
use Rattle.tc_model.specs.declared.entries.Entry.TheVariants.{Called, Gave, Looked}
use Rattle.tc_model.specs.declared.items.Item.{Item}
use Rattle.tc_model.specs.declared.limits.TheConstants.{MOST_WEIGHT}
use Rattle.tc_model.specs.declared.outcomes.Outcome.{Outcome}
use Rattle.tc_model.specs.declared.outcomes.Outcome.TheVariants.{Done, Took, NoTuple, Absent, Found, Pending, Spec, Over}
use Rattle.tc_model.proofs.NextEntry.{same_id-at}
use Rattle.tc_model.proofs.Runs.{after_history-push}
use Rattle.tc_model.proofs.WaitingCalls.{pending-answered}
use Rattle.tc_rows.specs.Fulls.{IsLoadOf, IsTooFull, leaves_request, may_wait, pending_behind}
use Rattle.tc_rows.specs.declared.fulls.Load.{Load}

-- the request of a call that may have to wait comes behind the others
request-more : (id : CallId) (s : State) (r : Request) → length (s.pending ++ r ∷ []) ≡ length s.pending + 1
request-more id s r = length_push s.pending r

reached-waits : (id : CallId) (op : Op) (result : Outcome) (items : List Item) (s : State)
    → length (reached_by id op result items s).pending ≡ length s.pending + cond (may_wait op) 1 0
reached-waits id (Out t) result items s = omega arith
reached-waits id (In t) result items s = request-more id s (record { id = id; wants = Take; template = t })
reached-waits id (Rd t) result items s = request-more id s (record { id = id; wants = Look; template = t })
reached-waits id (Inp t) result items s = omega arith
reached-waits id (Rdp t) result items s = omega arith
reached-waits id (No t) result items s = request-more id s (record { id = id; wants = Absence; template = t })
reached-waits id (Nop t) result items s = omega arith
reached-waits id (SetSpec clauses) result items s = omega arith
reached-waits id GetSpec result items s = omega arith

call-waits : (id : CallId) (op : Op) (result : Outcome) (items : List Item) (s : State)
    → length (after_call id op result items s).pending ≡ length s.pending + cond (leaves_request op result) 1 0
call-waits id op (Over phase tuple) items s = omega arith
call-waits id op Done items s = reached-waits id op Done items s
call-waits id op (Took u) items s = reached-waits id op (Took u) items s
call-waits id op NoTuple items s = reached-waits id op NoTuple items s
call-waits id op Absent items s = reached-waits id op Absent items s
call-waits id op (Found u) items s = reached-waits id op (Found u) items s
call-waits id op Pending items s = reached-waits id op Pending items s
call-waits id op (Spec text) items s = reached-waits id op (Spec text) items s

-- without a request that is there, one is gone
without-length : (id : CallId) (requests : List Request) (place : ℕ) (r : Request) → slice_get requests place ≡ Some r → r.id ≡ id
    → length (without_request id requests) + 1 ≡ length requests
without-length id [] place r at of = absurd (none-some r at)
without-length id (q ∷ requests) zero r at of =
    rw (same_id-at q.id id (ap (λ (x : Request). x.id) (same_Some q r at) ∙ of)) (omega arith)
without-length id (q ∷ requests) (suc place) r at of =
    elim (same_id q.id id) as (λ b. length (cond b requests (q ∷ without_request id requests)) + 1 ≡ suc (length requests)) [
      | true ↦ omega arith
      | false ↦ omega (arith, without-length id requests place r at of)
    ]

-- how many requests wait behind a legal entry
entry-waits : (origin : Origin) (history : List Entry) (s : State) (e : Entry) → IsLegal AnyOne origin history s e
    → length (after_entry e s).pending ≡ pending_behind e (length s.pending)
entry-waits origin history s (Called id op result items) legal = call-waits id op result items s
entry-waits origin history s (Gave id result items) legal =
    let gone : length (without_request id s.pending) + 1 ≡ length s.pending =
    without-length id s.pending legal.chosen.0.0 legal.request (slice_get-Contains s.pending legal.request legal.chosen.0) legal.asked in
    ap length (pending-answered id result items s) ∙ omega (arith, gone)
entry-waits origin history s (Looked id asked reply) legal = refl

-- the load behind a legal entry
pub load-more : (origin : Origin) (history : List Entry) (e : Entry) (load next : Load)
    → IsLegal AnyOne origin history (after_history (opening origin) history) e → IsLoadOf origin history load
    → next.weight ≡ load.weight + weight_of e → next.pending ≡ pending_behind e load.pending
    → IsLoadOf origin (history ++ e ∷ []) next
load-more origin history e load next legal of weighs waits = record {
  weighs = omega (arith, weighs, of.weighs, sum_by-append weight_of history (e ∷ []));
  waits = waits ∙ (ap (pending_behind e) of.waits
      ∙ (sym (entry-waits origin history (after_history (opening origin) history) e legal)
      ∙ ap (λ (s : State). length s.pending) (sym (after_history-push (opening origin) history e))));
}

-- a load tells whether the centre is too full
pub full-same : (origin : Origin) (history : List Entry) (load : Load) (budget : ℕ) → IsLoadOf origin history load
    → origin.budget ≡ budget → (IsTooFull load budget → IsFull origin history) × (IsFull origin history → IsTooFull load budget)
full-same origin history load budget of same =
    let sums : load.weight + (load.pending + 2) * (budget + 1)
    ≡ weight history + (pending_after origin history + 2) * (origin.budget + 1) =
    rw (of.weighs, of.waits, sym same) refl in
    (subst (λ n. MOST_WEIGHT < n) sums, subst (λ n. MOST_WEIGHT < n) (sym sums))

-- each entry weighs something
weight-some : (e : Entry) → 0 < weight_of e
weight-some (Called id op result items) = omega arith
weight-some (Gave id result items) = omega arith
weight-some (Looked id asked reply) = omega arith

-- longer fronts weigh more
pub weight-rises : (history : List Entry) (i j : ℕ) → i < j → j ≤ length history
    → weight (take i history) < weight (take j history)
weight-rises [] i j less inside = absurd (omega arith)
weight-rises (e ∷ es) i zero less inside = absurd (omega arith)
weight-rises (e ∷ es) zero (suc j) less inside =
    omega (arith, weight-some e, sum_by-cons weight_of e (take j es))
weight-rises (e ∷ es) (suc i) (suc j) less inside =
    omega (
      arith,
      weight-rises es i j (omega (arith, less)) (omega (arith, inside)),
      sum_by-cons weight_of e (take i es),
      sum_by-cons weight_of e (take j es),
    )
