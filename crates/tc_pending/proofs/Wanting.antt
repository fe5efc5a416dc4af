-- Requests that want a tuple, and requests that want absence.
use Rattle.std.proofs.Common.{◌≡◌, ◌⊎◌, ◌≤◌, ◌<◌, ℕ, suc, inl, inr, Some, None, Bool, false, List, [], All, take, drop, refl, sym, subst, arith}
use Rattle.std.specs.List.{remove}
use Rattle.std.proofs.lemmas.List.Elements.{All-append, All-take, All-drop, All-contains}
use Rattle.tc_lists.specs.Firsts.{NoneOf}
use Rattle.tc_lists.proofs.Firsts.{IsFirst-contains}
use Rattle.tc_lists.proofs.Places.{Contains-take_longer}
use Rattle.tc_term.specs.Tree.{Tree}
use Rattle.tc_term.specs.Variables.{var_bound}
use Rattle.tc_bag.specs.Stock.{Row, tuples_of}
use Rattle.tc_search.specs.Found.{IsFound}
use Rattle.tc_model.specs.State.{IsAnswerable, IsMatch, IsThere, NoneMatches, WantsTuple}
use Rattle.tc_model.specs.declared.calls.Request.{Request}
use Rattle.tc_model.specs.declared.calls.Wants.{Wants}
use Rattle.tc_model.specs.declared.calls.Wants.TheVariants.{Take, Look, Absence}
use Rattle.tc_pending.specs.Answers.{HasOldest, IsAnsweredBy, IsNextAnswer, IsMet, IsFree, IsOldestMet, IsOldestSuch}
use Rattle.tc_pending.specs.Filed.{NeverFree}

-- a request that is met, or free, can be answered
pub answerable-met : (tuples : List Tree) (r : Request) → IsMet tuples r → IsAnswerable tuples r
answerable-met tuples r met = go r.wants met.wants
  where
    go : (w : Wants) → WantsTuple w → IsThere w tuples r.template
    go Take wants = met.some
    go Look wants = met.some
    go Absence wants = absurd wants

pub answerable-free : (tuples : List Tree) (r : Request) → IsFree tuples r → IsAnswerable tuples r
answerable-free tuples r free = go r.wants free.wants
  where
    go : (w : Wants) → (WantsTuple w → ⊥) → IsThere w tuples r.template
    go Take wants = absurd (wants tt)
    go Look wants = absurd (wants tt)
    go Absence wants = free.none

-- and there are no others
pub met-or-free : (tuples : List Tree) (r : Request) → IsAnswerable tuples r → IsMet tuples r ⊎ IsFree tuples r
met-or-free tuples r answerable = go r.wants refl answerable
  where
    go : (w : Wants) → r.wants ≡ w → IsThere w tuples r.template → IsMet tuples r ⊎ IsFree tuples r
    go Take is some = inl (record { wants = subst WantsTuple (sym is) tt; some = some })
    go Look is some = inl (record { wants = subst WantsTuple (sym is) tt; some = some })
    go Absence is none = inr (record { wants = subst WantsTuple is; none = none })

pub none-answerable : (tuples : List Tree) (requests : List Request) → NoneOf (IsMet tuples) requests → NoneOf (IsFree tuples) requests
    → NoneOf (IsAnswerable tuples) requests
none-answerable tuples requests met free r stands answerable =
    elim (met-or-free tuples r answerable) [ inl is ↦ met r stands is | inr is ↦ free r stands is ]

-- what answers them
pub answered-met : (rows : List Row) (w : Wants) (template : Tree) (age : ℕ) → WantsTuple w → HasOldest rows template age
    → IsAnsweredBy rows w template (Some age)
answered-met rows Take template age wants oldest = oldest
answered-met rows Look template age wants oldest = oldest
answered-met rows Absence template age wants oldest = absurd wants

pub answered-free : (rows : List Row) (w : Wants) (template : Tree) → (WantsTuple w → ⊥) → NoneMatches (tuples_of rows) template
    → IsAnsweredBy rows w template None
answered-free rows Take template wants none = absurd (wants tt)
answered-free rows Look template wants none = absurd (wants tt)
answered-free rows Absence template wants none = none

-- none of fewer
pub NoneOf-fewer : {X : Type 0} (P : X → Type 0) (xs : List X) (m n : ℕ) → m ≤ n → NoneOf P (take n xs) → NoneOf P (take m xs)
NoneOf-fewer P xs m n less none x stands has = none x (Contains-take_longer xs m n x less stands) has

-- which of the oldest of both is next
pub next-met : (rows : List Row) (requests : List Request) (place age : ℕ) → IsOldestMet rows requests place age
    → NoneOf (IsFree (tuples_of rows)) (take place requests) → IsNextAnswer rows requests place (Some age)
next-met rows requests place age oldest none = record {
  request = oldest.request;
  stands = oldest.stands;
  none_before = none-answerable (tuples_of rows) (take place requests) oldest.none_before none;
  answer = answered-met rows oldest.request.wants oldest.request.template age oldest.wants oldest.oldest;
}

pub next-free : (rows : List Row) (requests : List Request) (place count : ℕ) → place < count
    → NoneOf (IsMet (tuples_of rows)) (take count requests) → IsOldestSuch (IsFree (tuples_of rows)) requests place
    → IsNextAnswer rows requests place None
next-free rows requests place count before none oldest = record {
  request = oldest.request;
  stands = oldest.stands;
  none_before =
      none-answerable (tuples_of rows) (take place requests)
      (NoneOf-fewer (IsMet (tuples_of rows)) requests place count (omega (arith, before)) none) oldest.none_before;
  answer = answered-free rows oldest.request.wants oldest.request.template oldest.has.wants oldest.has.none;
}

-- where none ever wanted absence, none is free
pub never-free : (tuples : List Tree) (absences : Bool) (requests : List Request) → NeverFree absences requests → absences ≡ false
    → NoneOf (IsFree tuples) requests
never-free tuples absences requests never is r stands free =
    free.wants (All-contains (λ (q : Request). WantsTuple q.wants) requests r (never is) stands)

pub All-remove : {X : Type 0} (P : X → Type 0) (xs : List X) (place : ℕ) → All P xs → All P (remove xs place)
All-remove P xs place all = All-append P (take place xs) (drop (suc place) xs) (All-take P place xs all) (All-drop P (suc place) xs all)

-- where a tuple is found, the request is not free
pub found-not_free : (rows : List Row) (r : Request) (age : ℕ) (tuple : Tree)
    → IsFound (var_bound r.template) [] r.template rows age tuple → IsFree (tuples_of rows) r → ⊥
found-not_free rows r age tuple found free =
    free.none tuple (IsFirst-contains (IsMatch r.template) (tuples_of rows) tuple found.first) found.first.has

-- what is found doesn't answer a request that wants absence, nor that nothing is one that wants a tuple
pub found-no_answer : (rows : List Row) (r : Request) (age : ℕ) (tuple : Tree) → (WantsTuple r.wants → ⊥)
    → IsFound (var_bound r.template) [] r.template rows age tuple → IsAnswerable (tuples_of rows) r → ⊥
found-no_answer rows r age tuple not found answerable =
    elim (met-or-free (tuples_of rows) r answerable) [
      | inl met ↦ not met.wants
      | inr free ↦ found-not_free rows r age tuple found free
    ]

pub none-no_answer : (tuples : List Tree) (r : Request) → WantsTuple r.wants → NoneMatches tuples r.template → IsAnswerable tuples r → ⊥
none-no_answer tuples r wants none answerable =
    elim (met-or-free tuples r answerable) [
      | inl met ↦ none met.some.tuple met.some.stands met.some.matches
      | inr free ↦ free.wants wants
    ]
