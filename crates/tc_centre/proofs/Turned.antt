-- What a turn and a look have done, as their callers see it.
use Rattle.std.proofs.Common.{◌≡◌, ◌+◌, ◌*◌, ◌<◌, ◌≤◌, ◌++◌, ℕ, false, true, List, [], ◌∷◌, length, refl, sym, ap, subst, ◌∙◌, ⊎_elim}
use Rattle.std.proofs.lemmas.Bool.{cases_lt, true≢false}
use Rattle.tc_bag.specs.Stock.{Row}
use Rattle.tc_model.specs.Entries.{weight}
use Rattle.tc_model.specs.Reactions.{Rule}
use Rattle.tc_model.specs.Replies.{reply_in}
use Rattle.tc_model.specs.Calls.{call_of}
use Rattle.tc_model.specs.Run.{IsNext, IsFirstRun, HasCall}
use Rattle.tc_model.specs.State.{IsQuiescent}
use Rattle.tc_model.specs.declared.calls.CallId.{CallId}
use Rattle.tc_model.specs.declared.calls.Op.{Op}
use Rattle.tc_model.specs.declared.calls.Request.{Request}
use Rattle.tc_model.specs.declared.entries.Entry.{Entry}
use Rattle.tc_model.specs.declared.entries.Entry.TheVariants.{Called, Looked}
use Rattle.tc_model.specs.declared.limits.TheConstants.{MOST_WEIGHT}
use Rattle.tc_centre.specs.Centre.{Centre}
use Rattle.tc_centre.specs.Held.{origin_of, IsSettled, IsAtRest, IsSame, KeepsHeld, Grows}
use Rattle.tc_calls.specs.Places.{place_in, ArePlaces}
use Rattle.tc_centre.specs.Turns.{IsAnswer, Serves, IsPoll, Tells}
use Rattle.tc_centre.specs.declared.answers.Answer.{Answer}
use Rattle.tc_centre.specs.declared.answers.Poll.{Poll}
use Rattle.tc_centre.specs.declared.founding.Founding.{Founding}
use Rattle.tc_centre.specs.declared.holdings.Holdings.{Holdings}
use Rattle.tc_bag.specs.Stock.{Stock}
use Rattle.tc_pending.specs.Waiting.{Waiting}
use Rattle.tc_centre.proofs.Entries.{weight-push}
use Rattle.tc_centre.proofs.Called.{looked}
use Rattle.tc_calls.proofs.Indexed.{index-looked}

-- the centre of a founding and a history
abbrev pub centre_with : Founding → List Entry → Centre
centre_with f history = record { origin = origin_of f; history = history }

module _ (f : Founding) (old new : List Entry) (clauses : List Rule) (rows : List Row) (n : ℕ) (requests : List Request) (centre : Centre)
    (id : CallId) (view : centre_with f old ≡ centre) where
  pub serves : (op : Op) (answer : Answer) → Grows id op old new → IsSettled (origin_of f) new clauses rows n requests
      → IsAnswer (reply_in new id) answer → Serves centre (centre_with f new) id op answer
  serves op answer grown settled told =
      let appended : (k : Centre) → Type 0 = λ k.
      centre_with f new ≡ record k { history = k.history ++ Called id op grown.result grown.items ∷ grown.gaves } in
      record {
        result = grown.result;
        items = grown.items;
        gaves = grown.gaves;
        answers = grown.answers;
        appended = subst appended view (ap (centre_with f) grown.history);
        run = settled.holds.run;
        quiescent = subst IsQuiescent settled.holds.state settled.quiescent;
        answer = told;
      }

  pub tells : (asked : ℕ) (poll : Poll) → HasCall (call_of id.agent asked) old
      → new ≡ old ++ Looked id asked (reply_in old (call_of id.agent asked)) ∷ []
      → IsFirstRun (origin_of f) new → IsPoll (reply_in old (call_of id.agent asked)) poll
      → Tells centre (centre_with f new) id asked poll
  tells asked poll called grown run told =
      let P : Centre → Type 0 = λ k. Tells k (centre_with f new) id asked poll in
      subst P view (record {
        called = called;
        appended = ap (centre_with f) grown;
        run = run;
        poll = told;
      })

  -- what is held stays settled behind a look
  pub look-settled : (asked waiting kept : ℕ) → IsSettled (origin_of f) old clauses rows n requests → IsNext centre.origin centre.history id
      → HasCall (call_of id.agent asked) old → kept ≡ weight old → waiting ≡ length requests
      → (MOST_WEIGHT < kept + (waiting + 2) * (f.budget + 1) → false ≡ true)
      → new ≡ old ++ Looked id asked (reply_in old (call_of id.agent asked)) ∷ []
      → IsSettled (origin_of f) new clauses rows n requests
  look-settled asked waiting kept settled next called weighs count light grown =
      let P : Centre → Type 0 = λ k. IsNext k.origin k.history id in
      let room : kept + (waiting + 2) * (f.budget + 1) ≤ MOST_WEIGHT =
      ⊎_elim (λ over. absurd (true≢false (sym (light over)))) (λ within. within)
      (cases_lt MOST_WEIGHT (kept + (waiting + 2) * (f.budget + 1))) in
      looked (origin_of f) old new clauses rows n requests id settled (subst P (sym view) next)
      (subst (λ w. w + (length requests + 2) * (f.budget + 1) ≤ MOST_WEIGHT) weighs
      (subst (λ p. kept + (p + 2) * (f.budget + 1) ≤ MOST_WEIGHT) count room))
      asked (reply_in old (call_of id.agent asked)) (record { called = called; told = refl }) grown

  pub look-weight : (asked kept : ℕ) → kept ≡ weight old
      → new ≡ old ++ Looked id asked (reply_in old (call_of id.agent asked)) ∷ [] → kept + 1 ≡ weight new
  look-weight asked kept weighs grown =
      ap (λ w. w + 1) weighs ∙ sym (ap weight grown ∙ weight-push old (Looked id asked (reply_in old (call_of id.agent asked))))

  -- the places of the old history are those of the new
  pub look-places : (asked : ℕ) (lists : List (List (ℕ × ℕ))) → IsNext centre.origin centre.history id → ArePlaces lists old
      → new ≡ old ++ Looked id asked (reply_in old (call_of id.agent asked)) ∷ [] → ArePlaces lists new
  look-places asked lists next places grown =
      let P : Centre → Type 0 = λ k. IsNext k.origin k.history id in
      subst (ArePlaces lists) (sym grown) (record {
        index = index-looked old id asked (reply_in old (call_of id.agent asked)) (place_in lists) (subst P (sym view) next).number
            places.index;
        rise = places.rise;
      })

module _ (old new : Holdings) where
  -- a turn has been served
  pub serves-held : (centre : Centre) (id : CallId) (op : Op) (answer : Answer)
      → centre_with old.founding old.history.items ≡ centre → KeepsHeld old new
      → Grows id op old.history.items new.history.items → IsAtRest new → IsAnswer (reply_in new.history.items id) answer
      → Serves centre (centre_with new.founding new.history.items) id op answer
  serves-held centre id op answer view keeps grown rest told =
      let f = new.founding in
      serves f old.history.items new.history.items new.spec new.bag.now new.bag.next new.pending.now centre id
      (ap (λ g. centre_with g old.history.items) keeps.founding ∙ view) op answer grown rest told

  -- what is as before is at rest as before
  pub same-rest : IsSame old new → IsAtRest old → IsAtRest new
  same-rest same rest =
      subst (λ f. IsSettled (origin_of f) new.history.items new.spec new.bag.now new.bag.next new.pending.now) (sym same.founding)
      (subst (λ cs. IsSettled (origin_of old.founding) new.history.items cs new.bag.now new.bag.next new.pending.now) (sym same.spec)
      (subst (λ (b : Stock). IsSettled (origin_of old.founding) new.history.items old.spec b.now b.next new.pending.now) (sym same.bag)
      (subst (λ (w : Waiting). IsSettled (origin_of old.founding) new.history.items old.spec old.bag.now old.bag.next w.now)
      (sym same.pending)
      (subst (λ es. IsSettled (origin_of old.founding) es old.spec old.bag.now old.bag.next old.pending.now) (sym same.history) rest))))
