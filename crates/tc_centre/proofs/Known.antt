-- What is known of requests and tuples, in the steps of a turn.
use Rattle.std.proofs.Common.{◌≡◌, ◌≢◌, ◌++◌, ℕ, List, slice_index_or, [], ◌∷◌, Contains, length, take, refl, sym, ap, subst, ◌∙◌, arith}
use Rattle.std.proofs.lemmas.List.{get_or-map, length-map, length-take, take_at}
use Rattle.tc_term.specs.Tree.{Tree}
use Rattle.tc_bag.specs.Stock.{AddsYounger, Row, Saved, Stock, begun, saved_of, tuples_of}
use Rattle.tc_pending.specs.Answers.{IsKnown}
use Rattle.tc_model.specs.State.{IsQuiescent, IsThere, NoneMatches, SomeMatches, WantsTuple}
use Rattle.tc_model.specs.declared.calls.Request.{Request}
use Rattle.tc_model.specs.declared.calls.Wants.{Wants}
use Rattle.tc_model.specs.declared.calls.Wants.TheVariants.{Take, Look, Absence}
use Rattle.tc_centre.specs.Held.{IsJustMarked, KeepsOld, Knows, known_of, state_held}
use Rattle.tc_centre.specs.declared.holdings.Holdings.{Holdings}
use Rattle.tc_pending.specs.declared.answering.Known.{Known}

contains-tuple : (rows : List Row) (r : Row) → Contains rows r → Contains (tuples_of rows) r.tuple
contains-tuple rows r there =
    let k : ℕ = there.0 in (
      k,
      omega (arith, there.1, length-map rows (λ (s : Row). s.tuple)),
      get_or-map (λ (s : Row). s.tuple) rows k r r.tuple there.1 ∙ ap (λ (s : Row). s.tuple) there.2,
    )

-- what there was at the first mark is that, whatever becomes of the bag
first-saved : (saved : List Saved) (a b : Saved) → saved ≢ [] → slice_index_or saved 0 a ≡ slice_index_or saved 0 b
first-saved [] a b some = absurd (some refl)
first-saved (s ∷ ss) a b some = refl

pub begun-kept : (old new : Stock) → old.saved ≢ [] → new.saved ≡ old.saved → begun new ≡ begun old
begun-kept old new some same =
    ap (λ (ss : List Saved). (slice_index_or ss 0 (saved_of new)).rows) same
    ∙ ap (λ (s : Saved). s.rows) (first-saved old.saved (saved_of new) (saved_of old) some)

-- a bag that was just marked was then what it is
begun-marked : (old new : Stock) → IsJustMarked old → new.saved ≡ old.saved → begun new ≡ old.now
begun-marked old new marked same = ap (λ (ss : List Saved). (slice_index_or ss 0 (saved_of new)).rows) (same ∙ marked)

some-there : (w : Wants) (tuples : List Tree) (t : Tree) → WantsTuple w → SomeMatches tuples t → IsThere w tuples t
some-there Take tuples t wanted some = some
some-there Look tuples t wanted some = some
some-there Absence tuples t wanted some = absurd wanted

none-there : (w : Wants) (tuples : List Tree) (t : Tree) → (WantsTuple w → ⊥) → NoneMatches tuples t → IsThere w tuples t
none-there Take tuples t unwanted none = absurd (unwanted tt)
none-there Look tuples t unwanted none = absurd (unwanted tt)
none-there Absence tuples t unwanted none = none

-- where no request could be answered, what was there is known behind a call
pub known-still : (old new : Holdings) → IsQuiescent (state_held old) → KeepsOld old new → IsJustMarked old.bag
    → new.bag.saved ≡ old.bag.saved → Knows (known_of old) new
known-still old new quiet kept marked same = record {
  none = record {
    older = λ q r stands wanted there older match.
        quiet q (subst (λ rs. Contains rs q) kept.requests stands)
        (some-there q.wants (tuples_of old.bag.now) q.template wanted (record {
          tuple = r.tuple;
          stands = contains-tuple old.bag.now r (kept.rows.added r there older);
          matches = match;
        }));
    had = λ q stands free.
        quiet q (subst (λ rs. Contains rs q) kept.requests stands)
        (none-there q.wants (tuples_of old.bag.now) q.template free.wants
        (subst (λ rows. NoneMatches (tuples_of rows) q.template) (begun-marked old.bag new.bag marked same) free.none));
  };
  count = omega (arith, ap length kept.requests, length-take (length old.pending.now) new.pending.now);
  age = kept.rows.rises;
}

-- what was known is known behind an answer, of the requests that there were
pub known-more : (known : Known) (old new : Holdings) → AddsYounger old.bag new.bag → begun new.bag ≡ begun old.bag
    → Knows known old → IsKnown known (begun new.bag) new.bag.now old.pending.now
known-more known old new kept same knows = record {
  older = λ q r stands wanted there younger match.
      knows.none.older q r stands wanted (kept.added r there (omega (arith, younger, knows.age))) younger match;
  had = λ q stands free.
      knows.none.had q stands (record {
        wants = free.wants;
        none = subst (λ rows. NoneMatches (tuples_of rows) q.template) same free.none;
      });
}

pub take-pushed : (requests new : List Request) (r : Request) → new ≡ requests ++ r ∷ []
    → take (length requests) new ≡ requests
take-pushed requests new r is = ap (take (length requests)) is ∙ take_at requests (r ∷ []) (length requests) refl

-- what is known, as it was read
pub known-as : (old new : Holdings) (count age : ℕ) → count ≡ length old.pending.now → age ≡ old.bag.next
    → Knows (known_of old) new → Knows (record { requests = count; age = age }) new
known-as old new count age counts ages knows =
    subst (λ n. Knows (record { requests = n; age = age }) new) (sym counts)
    (subst (λ a. Knows (record { requests = length old.pending.now; age = a }) new) (sym ages) knows)
