-- The request of a call, and its answer.
use Rattle.std.proofs.Common.{◌≡◌, ◌<◌, ◌≤◌, ℕ, List, AllPairs, Contains, false, Some, None, get_or, slice_get, refl, sym, ap, subst, ◌∙◌, ⊎_elim, arith}
use Rattle.std.specs.List.{remove}
use Rattle.std.proofs.lemmas.Bool.{both_ways, cases_lt}
use Rattle.std.proofs.lemmas.Option.{same_Some, slice_get_within, slice_get-get_or, get_or_from_slice_get}
use Rattle.tc_model.specs.Calls.{same_id}
use Rattle.tc_model.specs.Choices.{AnyOne}
use Rattle.tc_model.specs.Run.{IsAnswered}
use Rattle.tc_model.specs.State.{State, Origin, IsThere, after_answer, after_search, unless_over, with_tuples}
use Rattle.tc_model.specs.Tables.{IsGiven, IsGivenFor}
use Rattle.tc_model.specs.Tuples.{after_items}
use Rattle.tc_model.specs.Waiting.{HasRequest}
use Rattle.tc_model.specs.declared.calls.CallId.{CallId}
use Rattle.tc_model.specs.declared.calls.Request.{Request}
use Rattle.tc_model.specs.declared.calls.Wants.{Wants}
use Rattle.tc_model.specs.declared.calls.Wants.TheVariants.{Take, Look, Absence}
use Rattle.tc_model.specs.declared.events.Phase.TheVariants.{Post}
use Rattle.tc_model.specs.declared.items.Item.{Item}
use Rattle.tc_model.specs.declared.outcomes.Outcome.{Outcome}
use Rattle.tc_model.specs.declared.outcomes.Outcome.TheVariants.{Took, Absent, Over}
use Rattle.tc_model.proofs.NextEntry.{same_id-at}
use Rattle.tc_model.proofs.WaitingCalls.{pending-answered, removed-is-without, wants-is}
use Rattle.tc_audit.specs.Reached.{IsRequestAt}
use Rattle.tc_audit.proofs.Resting.{same-state}

-- two places have requests of one call only if they are one
same-request : (requests : List Request) → AllPairs (λ q r. same_id q.id r.id ≡ false) requests → (i j : ℕ) (q r : Request)
    → slice_get requests i ≡ Some q → slice_get requests j ≡ Some r → q.id ≡ r.id → q ≡ r
same-request requests once i j q r first second same =
    let apart : (k l : ℕ) (x y : Request) → slice_get requests k ≡ Some x → slice_get requests l ≡ Some y → x.id ≡ y.id → k < l → ⊥ =
    λ k l x y at there is before.
    both_ways (same_id x.id y.id)
    (subst (λ (z : Request). same_id x.id z.id ≡ false) (get_or_from_slice_get requests l y x there)
    (subst (λ (z : Request). same_id z.id (get_or requests l x).id ≡ false) (get_or_from_slice_get requests k x x at)
    (once k l x before (slice_get_within requests l y there))))
    (same_id-at x.id y.id is) in
    ⊎_elim (λ (before : i < j). absurd (apart i j q r first second same before))
    (λ (le : j ≤ i).
    ⊎_elim (λ (behind : j < i). absurd (apart j i r q second first (sym same) behind))
    (λ (ge : i ≤ j).
    let here : i ≡ j = omega (arith, le, ge) in
    same_Some q r (sym first ∙ (ap (slice_get requests) here ∙ second)))
    (cases_lt j i))
    (cases_lt i j)

-- the request that was read at the place of a call's request
abbrev pub request-read : (requests first second : List Request) (id : CallId) (place : ℕ) (read : Request)
    → IsRequestAt first id place → first ≡ requests → second ≡ requests → read ≡ get_or second place read
    → IsRequestAt requests id place
request-read requests first second id place read found firsts seconds is =
    let at : IsRequestAt requests id place = subst (λ rs. IsRequestAt rs id place) firsts found in
    let same : read ≡ at.request =
    is ∙ (ap (λ rs. get_or rs place read) seconds ∙ get_or_from_slice_get requests place at.request read at.stands) in
    record {
      request = read;
      stands = at.stands ∙ ap Some (sym same);
      of = ap (λ (r : Request). r.id) same ∙ at.of;
    }

-- where a request is given an outcome, what it wants is there
given-there : (origin : Origin) (s : State) (w : Wants) (r : Request) (result : Outcome) (items : List Item)
    → IsGivenFor AnyOne origin s w r result items → IsThere w s.tuples r.template
given-there origin s Take r (Took u) items given = record { tuple = u; stands = given.0.0; matches = given.0.1 }
given-there origin s Take r (Over Post (Some u)) items given = record { tuple = u; stands = given.0.0; matches = given.0.1 }
given-there origin s Take r _ items given = absurd given
given-there origin s Look r (Took u) items given = record { tuple = u; stands = given.0.0; matches = given.0.1 }
given-there origin s Look r (Over Post (Some u)) items given = record { tuple = u; stands = given.0.0; matches = given.0.1 }
given-there origin s Look r _ items given = absurd given
given-there origin s Absence r Absent items given = given.0
given-there origin s Absence r (Over Post None) items given = given.0
given-there origin s Absence r _ items given = absurd given

clauses-answered : (id : CallId) (result : Outcome) (items : List Item) (s : State) → (after_answer id result items s).clauses ≡ s.clauses
clauses-answered id (Took u) items s = refl
clauses-answered id _ items s = refl

module _ (origin : Origin) (s : State) (id : CallId) (result : Outcome) (items : List Item)
    (once : AllPairs (λ q r. same_id q.id r.id ≡ false) s.pending) (place : ℕ) (at : IsRequestAt s.pending id place) where
  -- a request of the call that is given the outcome is answered
  pub given-answered : IsGiven AnyOne origin s at.request result items → IsAnswered AnyOne origin s id result items
  given-answered given =
      let r : Request = at.request in
      record {
        request = r;
        chosen = (
          (place, slice_get_within s.pending place r at.stands, get_or_from_slice_get s.pending place r r at.stands),
          given-there origin s r.wants r result items given,
        );
        asked = at.of;
        given = given;
      }

  -- and no other one is
  pub answered-given : IsAnswered AnyOne origin s id result items → IsGiven AnyOne origin s at.request result items
  answered-given answered =
      let q : Request = answered.request in
      let there : Contains s.pending q = answered.chosen.0 in
      let stands : slice_get s.pending there.0 ≡ Some q = slice_get-get_or s.pending there.0 q there.1 ∙ ap Some there.2 in
      subst (λ r. IsGiven AnyOne origin s r result items)
      (same-request s.pending once there.0 place q at.request stands at.stands (answered.asked ∙ sym at.of)) answered.given

  -- the state behind the answer, by its parts
  pub state-answered : (t : State)
      → t.tuples ≡ (unless_over result s (with_tuples (after_items items (after_search at.request.wants result s.tuples)) s)).tuples
      → t.clauses ≡ s.clauses → t.pending ≡ remove s.pending place → t ≡ after_answer id result items s
  state-answered t tuples clauses pending =
      let wants = wants-is id s.pending place at.request once at.stands at.of in
      same-state t (after_answer id result items s)
      (tuples ∙ ap (λ w. (unless_over result s (with_tuples (after_items items (after_search w result s.tuples)) s)).tuples) (sym wants))
      (clauses ∙ sym (clauses-answered id result items s))
      (pending ∙ (sym (removed-is-without id s.pending place at.request once at.stands at.of) ∙ sym (pending-answered id result items s)))

-- where no request is of the call, it isn't answered
pub none-answered : (origin : Origin) (s : State) (id : CallId) (result : Outcome) (items : List Item)
    → (HasRequest id s.pending → ⊥) → IsAnswered AnyOne origin s id result items → ⊥
none-answered origin s id result items none answered =
    none (record { request = answered.request; stands = answered.chosen.0; of = answered.asked })
