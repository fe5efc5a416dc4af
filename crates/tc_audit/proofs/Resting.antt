-- What is known where no request can be answered, and what of it is known later.
use Rattle.std.proofs.Common.{◌≡◌, ◌++◌, ◌≤◌, ℕ, List, slice_index_or, [], ◌∷◌, Contains, Option, Some, None, length, take, refl, sym, ap, subst, ◌∙◌, arith}
use Rattle.std.proofs.lemmas.List.{get_or-map, length-map, length-take, take_at, take_all}
use Rattle.std.proofs.lemmas.Option.{slice_get_within, get_or_from_slice_get}
use Rattle.tc_lists.specs.Firsts.{NoneOf}
use Rattle.tc_lists.specs.Marks.{IsGivenUp}
use Rattle.tc_lists.proofs.Firsts.{IsFirst-contains}
use Rattle.tc_term.specs.Tree.{Tree}
use Rattle.tc_bag.specs.Stock.{AddsYounger, Row, Saved, Stock, begun, marked, saved_of, tuples_of}
use Rattle.tc_model.specs.State.{State, IsAnswerable, IsMatch, IsThere, NoneMatches, SomeMatches, WantsTuple, after_call, reached_by}
use Rattle.tc_model.specs.declared.calls.CallId.{CallId}
use Rattle.tc_model.specs.declared.calls.Op.{Op}
use Rattle.tc_model.specs.declared.calls.Op.TheVariants.{Out, In, Rd, Inp, Rdp, No, Nop, SetSpec, GetSpec}
use Rattle.tc_model.specs.declared.calls.Request.{Request}
use Rattle.tc_model.specs.declared.calls.Wants.{Wants}
use Rattle.tc_model.specs.declared.calls.Wants.TheVariants.{Take, Look, Absence}
use Rattle.tc_model.specs.declared.items.Item.{Item}
use Rattle.tc_model.specs.declared.outcomes.Outcome.{Outcome}
use Rattle.tc_model.specs.declared.outcomes.Outcome.TheVariants as outcome
use Rattle.tc_pending.specs.Answers.{HasOldest, IsAnsweredBy, IsKnown, IsNextAnswer}
use Rattle.tc_pending.specs.Waiting.{Waiting}
use Rattle.tc_pending.specs.declared.answering.Known.{Known}
use Rattle.tc_audit.specs.Reached.{HasOneMark, IsRested, IsSound}
use Rattle.tc_audit.specs.declared.reached.Reached.{Reached}

-- the tuple of an age that is the oldest to match is there
some-oldest : (rows : List Row) (t : Tree) (age : ℕ) → HasOldest rows t age → SomeMatches (tuples_of rows) t
some-oldest rows t age oldest = record {
  tuple = oldest.tuple;
  stands = IsFirst-contains (IsMatch t) (tuples_of rows) oldest.tuple oldest.found.first;
  matches = oldest.found.first.has;
}

-- where a request is answered, what it wants is there
answered-there : (rows : List Row) (w : Wants) (t : Tree) (age : Option ℕ) → IsAnsweredBy rows w t age → IsThere w (tuples_of rows) t
answered-there rows Take t (Some age) answer = some-oldest rows t age answer
answered-there rows Look t (Some age) answer = some-oldest rows t age answer
answered-there rows Absence t None answer = answer
answered-there rows Take t None answer = absurd answer
answered-there rows Look t None answer = absurd answer
answered-there rows Absence t (Some age) answer = absurd answer

-- where a request is the next that is answered, some can be
pub next-answerable : (rows : List Row) (requests : List Request) (place : ℕ) (age : Option ℕ)
    → IsNextAnswer rows requests place age → NoneOf (IsAnswerable (tuples_of rows)) requests → ⊥
next-answerable rows requests place age next none =
    let r : Request = next.request in
    none r (place, slice_get_within requests place r next.stands, get_or_from_slice_get requests place r r next.stands)
    (answered-there rows r.wants r.template age next.answer)

-- the mark of a bag is set anew
module _ (s kept new : Stock) (one : HasOneMark s) (given_up : IsGivenUp s.saved kept.saved) (mark : new ≡ marked kept) where
  pub marked-once : new.saved ≡ saved_of new ∷ []
  marked-once =
      subst (λ (b : Stock). b.saved ≡ saved_of b ∷ []) (sym mark)
      (ap (λ (ss : List Saved). ss ++ saved_of kept ∷ []) (given_up [] one.mark one.only))

contains-tuple : (rows : List Row) (r : Row) → Contains rows r → Contains (tuples_of rows) r.tuple
contains-tuple rows r there =
    let k : ℕ = there.0 in (
      k,
      omega (arith, there.1, length-map rows (λ (s : Row). s.tuple)),
      get_or-map (λ (s : Row). s.tuple) rows k r r.tuple there.1 ∙ ap (λ (s : Row). s.tuple) there.2,
    )

some-there : (w : Wants) (tuples : List Tree) (t : Tree) → WantsTuple w → SomeMatches tuples t → IsThere w tuples t
some-there Take tuples t wanted some = some
some-there Look tuples t wanted some = some
some-there Absence tuples t wanted some = absurd wanted

none-there : (w : Wants) (tuples : List Tree) (t : Tree) → (WantsTuple w → ⊥) → NoneMatches tuples t → IsThere w tuples t
none-there Take tuples t unwanted none = absurd (unwanted tt)
none-there Look tuples t unwanted none = absurd (unwanted tt)
none-there Absence tuples t unwanted none = none

begun-at : (saved : List Saved) (mark a : Saved) → saved ≡ mark ∷ [] → (slice_index_or saved 0 a).rows ≡ mark.rows
begun-at saved mark a is = ap (λ (ss : List Saved). (slice_index_or ss 0 a).rows) is

-- what there was at the one mark stays that
begun-kept : (old new : Stock) → HasOneMark old → new.saved ≡ old.saved → begun new ≡ begun old
begun-kept old new one same =
    begun-at new.saved one.mark (saved_of new) (same ∙ one.only) ∙ sym (begun-at old.saved one.mark (saved_of old) one.only)

-- where no request could be answered, all that was there is known behind a call
module _ (old new : Reached) (rest : IsRested old) (adds : AddsYounger old.bag new.bag) (saved : new.bag.saved ≡ old.bag.saved)
    (requests : take (length old.pending.now) new.pending.now ≡ old.pending.now) where
  begun-marked : begun new.bag ≡ old.bag.now
  begun-marked = begun-at new.bag.saved (saved_of old.bag) (saved_of new.bag) (saved ∙ rest.marked)

  abbrev all : Known
  all = record { requests = length old.pending.now; age = old.bag.next }

  known-all : IsKnown all (begun new.bag) new.bag.now new.pending.now
  known-all = record {
    older = λ q r stands wanted there older match.
        rest.quiescent q (subst (λ rs. Contains rs q) requests stands)
        (some-there q.wants (tuples_of old.bag.now) q.template wanted (record {
          tuple = r.tuple;
          stands = contains-tuple old.bag.now r (adds.added r there older);
          matches = match;
        }));
    had = λ q stands free.
        rest.quiescent q (subst (λ rs. Contains rs q) requests stands)
        (none-there q.wants (tuples_of old.bag.now) q.template free.wants
        (subst (λ rows. NoneMatches (tuples_of rows) q.template) begun-marked free.none));
  }

  pub sound-call : new.known ≡ old.known → IsSound new
  sound-call known =
      let same : new.known ≡ all =
      known ∙ ap (λ n. let k : Known = record { requests = n; age = old.known.age } in k) rest.count
      ∙ ap (λ a. let k : Known = record { requests = length old.pending.now; age = a } in k) rest.age in
      record {
        mark = record { mark = saved_of old.bag; only = saved ∙ rest.marked };
        known = subst (λ k. IsKnown k (begun new.bag) new.bag.now new.pending.now) (sym same) known-all;
        age = omega (arith, ap (λ (k : Known). k.age) same, adds.rises);
        count = omega (arith, ap (λ (k : Known). k.requests) same, ap length requests, length-take (length old.pending.now) new.pending.now);
      }

-- what is known with the mark stays so, if nothing else does
pub sound-rested : (old : Reached) → IsRested old → IsSound old
sound-rested old rest =
    sound-call old old rest (record { rises = omega arith; added = λ r there older. there }) refl
    (take_all (length old.pending.now) old.pending.now (omega arith)) refl

-- the requests that there were stand before what a call adds
requests-reached : (id : CallId) (op : Op) (result : Outcome) (items : List Item) (s : State)
    → take (length s.pending) (reached_by id op result items s).pending ≡ s.pending
requests-reached id (In t) result items s = take_at s.pending (record { id = id; wants = Take; template = t } ∷ []) (length s.pending) refl
requests-reached id (Rd t) result items s = take_at s.pending (record { id = id; wants = Look; template = t } ∷ []) (length s.pending) refl
requests-reached id (No t) result items s = take_at s.pending (record { id = id; wants = Absence; template = t } ∷ []) (length s.pending) refl
requests-reached id (Out t) result items s = take_all (length s.pending) s.pending (omega arith)
requests-reached id (Inp t) result items s = take_all (length s.pending) s.pending (omega arith)
requests-reached id (Rdp t) result items s = take_all (length s.pending) s.pending (omega arith)
requests-reached id (Nop t) result items s = take_all (length s.pending) s.pending (omega arith)
requests-reached id (SetSpec clauses) result items s = take_all (length s.pending) s.pending (omega arith)
requests-reached id GetSpec result items s = take_all (length s.pending) s.pending (omega arith)

pub requests-stay : (id : CallId) (op : Op) (result : Outcome) (items : List Item) (s : State)
    → take (length s.pending) (after_call id op result items s).pending ≡ s.pending
requests-stay id op (outcome.Over phase tuple) items s = take_all (length s.pending) s.pending (omega arith)
requests-stay id op outcome.Done items s = requests-reached id op outcome.Done items s
requests-stay id op (outcome.Took u) items s = requests-reached id op (outcome.Took u) items s
requests-stay id op outcome.NoTuple items s = requests-reached id op outcome.NoTuple items s
requests-stay id op outcome.Absent items s = requests-reached id op outcome.Absent items s
requests-stay id op (outcome.Found u) items s = requests-reached id op (outcome.Found u) items s
requests-stay id op outcome.Pending items s = requests-reached id op outcome.Pending items s
requests-stay id op (outcome.Spec text) items s = requests-reached id op (outcome.Spec text) items s

-- states with the same parts are the same
pub same-state : (s t : State) → s.tuples ≡ t.tuples → s.clauses ≡ t.clauses → s.pending ≡ t.pending → s ≡ t
same-state s t tuples clauses pending =
    ap (λ ts. let x : State = record { tuples = ts; clauses = s.clauses; pending = s.pending } in x) tuples
    ∙ ap (λ cs. let x : State = record { tuples = t.tuples; clauses = cs; pending = s.pending } in x) clauses
    ∙ ap (λ rs. let x : State = record { tuples = t.tuples; clauses = t.clauses; pending = rs } in x) pending

-- what was known is known behind an answer, of the requests that there were
known-more : (old new : Stock) (known : Known) (requests : List Request) → HasOneMark old → AddsYounger old new
    → new.saved ≡ old.saved → known.age ≤ old.next → IsKnown known (begun old) old.now requests
    → IsKnown known (begun new) new.now requests
known-more old new known requests one adds saved age knows = record {
  older = λ q r stands wanted there younger match.
      knows.older q r stands wanted (adds.added r there (omega (arith, younger, age))) younger match;
  had = λ q stands free.
      knows.had q stands (record {
        wants = free.wants;
        none = subst (λ rows. NoneMatches (tuples_of rows) q.template) (begun-kept old new one saved) free.none;
      });
}

-- what was known is so behind an answer, while its request is there
pub sound-given : (old new : Reached) → IsSound old → AddsYounger old.bag new.bag → new.bag.saved ≡ old.bag.saved
    → new.pending ≡ old.pending → new.known ≡ old.known → IsSound new
sound-given old new sound adds saved pending known =
    let requests : new.pending.now ≡ old.pending.now = ap (λ (w : Waiting). w.now) pending in
    record {
      mark = record { mark = sound.mark.mark; only = saved ∙ sound.mark.only };
      known =
          subst (λ k. IsKnown k (begun new.bag) new.bag.now new.pending.now) (sym known)
          (subst (λ rs. IsKnown old.known (begun new.bag) new.bag.now rs) (sym requests)
          (known-more old.bag new.bag old.known old.pending.now sound.mark adds saved sound.age sound.known));
      age = omega (arith, ap (λ (k : Known). k.age) known, sound.age, adds.rises);
      count = omega (arith, ap (λ (k : Known). k.requests) known, sound.count, ap length requests);
    }
