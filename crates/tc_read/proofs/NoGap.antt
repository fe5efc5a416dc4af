-- No text of clauses is without an end, where no clause neither leads anywhere nor is refused.
use Rattle.std.proofs.Common.{◌≡◌, ◌<◌, ◌≤◌, ◌+◌, ◌-◌, ◌⊎◌, ℕ, zero, suc, Bool, true, false, nat_lt, List, [], ◌∷◌, Option, Some, None, MatchOption, inl, inr, drop, length, refl, length-drop, arith}
use Rattle.tc_term.specs.Layouts.{At, Scan, Stop, TextEnd, ClauseEnd, NoToken}
use Rattle.tc_term.specs.Limits.{most_brackets, most_variables}
use Rattle.tc_term.specs.Tree.{Fits, Tree}
use Rattle.tc_term.specs.Faults.{Answer, Found, Nothing, Parsed, Reading, Stopped, TooBig, TooMany, Unended, WideInt, When, all_known, first_place, first_wide, most_open}
use Rattle.tc_term.specs.Faults as answer
use Rattle.tc_read.specs.Clauses.{AnswersAt, HasFaultyClause, HasNoGap, IsFaultyAt, Language, LeadsTo, LeadsToEnd}
use Rattle.tc_read.specs.declared.clauses.Unread.TheVariants.{Syntax, Size}
use Rattle.tc_read.proofs.AllRead.{some_reading}
use Rattle.tc_read.proofs.Answering.{end_beyond, end_within}

-- a clause that is found ends behind its place, in the text
judged_place : (place behind : ℕ) (r : Reading) (t : Tree) (n : ℕ) (o : Option ℕ) (b : Bool)
    → MatchOption o (When b (Found t n ≡ TooMany place) (((Found t n ≡ TooBig place) × (Fits r.term → ⊥)) ⊎ ((Found t n ≡ Found r.term behind) × Fits r.term))) (λ w. Found t n ≡ WideInt w)
    → n ≡ behind
judged_place place behind r t n (Some w) b h = cc
judged_place place behind r t n None true h = cc
judged_place place behind r t n None false (inl h) = let x = h.0 in cc
judged_place place behind r t n None false (inr h) = let x = h.0 in cc

parsed_place : (place behind : ℕ) (ts : List At) (t : Tree) (n : ℕ) → Parsed place behind ts (Found t n) → n ≡ behind
parsed_place place behind ts t n (inl h) = let x = h.0 in cc
parsed_place place behind ts t n (inr h) =
    judged_place place behind h.0 t n (h.0).wide (nat_lt most_variables (length (all_known [] ts))) h.2

ended_place : (b : Bool) (place behind : ℕ) (ts : List At) (t : Tree) (n : ℕ)
    → When b (Found t n ≡ TooBig place) (Parsed place behind ts (Found t n)) → n ≡ behind
ended_place true place behind ts t n h = cc
ended_place false place behind ts t n h = parsed_place place behind ts t n h

unended_none : (size : ℕ) (ts : List At) (t : Tree) (n : ℕ) → Unended size ts (Found t n) → ⊥
unended_none size [] t n h = cc
unended_none size (x ∷ ts) t n h = cc

-- between these two places
abbrev IsBetween : ℕ → ℕ → ℕ → Type 0
IsBetween from size n = (from < n) × (n ≤ size)

stopped_place : (from size : ℕ) (s : List ℕ) (ts : List At) (stop : Stop) (t : Tree) (n : ℕ) → from ≤ size
    → length s ≡ size - from → Scan true size s ts stop → Stopped true size ts stop (Found t n) → IsBetween from size n
stopped_place from size s ts (NoToken place) t n inside is scan h = absurd (let x : Found t n ≡ answer.Syntax place = h in cc)
stopped_place from size s ts (ClauseEnd place) t n inside is scan h =
    let at : n ≡ place + 1 =
    ended_place (nat_lt most_brackets (most_open 0 ts)) (first_place size ts (ClauseEnd place)) (place + 1) ts t n h in
    (omega (arith, at, is, inside, end_beyond scan (omega (arith, is))), omega (arith, at, end_within scan (omega (arith, is))))
stopped_place from size s ts TextEnd t n inside is scan h = absurd (unended_none size ts t n h)

answered_place : (from size : ℕ) (s : List ℕ) (ts : List At) (stop : Stop) (t : Tree) (n : ℕ) (o : Option ℕ) → from ≤ size
    → length s ≡ size - from → Scan true size s ts stop
    → MatchOption o (Stopped true size ts stop (Found t n)) (λ place. Found t n ≡ WideInt place) → IsBetween from size n
answered_place from size s ts stop t n (Some place) inside is scan h = absurd (let x : Found t n ≡ WideInt place = h in cc)
answered_place from size s ts stop t n None inside is scan h = stopped_place from size s ts stop t n inside is scan h

pub found_place : (text : List ℕ) (from : ℕ) (t : Tree) (n : ℕ) → from ≤ length text → AnswersAt text from (Found t n)
    → (from < n) × (n ≤ length text)
found_place text from t n inside h =
    answered_place from (length text) (drop from text) h.0 h.1 t n (first_wide h.0) inside (length-drop from text) h.2 h.3

module _ {S C : Type 0} (l : Language S C) (no_gap : HasNoGap l) where
  -- clauses from here lead to no end of the text, or to nothing faulty
  abbrev NeverEnds : List ℕ → ℕ → S → Type 0
  NeverEnds text from s = (ts : List Tree) (end : ℕ) (last : S) → LeadsTo l text from s ts end last → AnswersAt text end Nothing → ⊥

  abbrev NeverFails : List ℕ → ℕ → S → Type 0
  NeverFails text from s = (ts : List Tree) (end : ℕ) (last : S) (why : C) → LeadsTo l text from s ts end last
      → IsFaultyAt l text end last why → ⊥

  stops : (text : List ℕ) (from : ℕ) (s : S) (a : Answer) → AnswersAt text from a
      → ((t : Tree) (n : ℕ) (next : S) → AnswersAt text from (Found t n) → NeverEnds text n next → NeverFails text n next → ⊥)
      → NeverEnds text from s → NeverFails text from s → ⊥
  stops text from s Nothing read on endless faultless = endless [] from s (refl, refl) read
  stops text from s (answer.Syntax place) read on endless faultless =
      faultless [] from s (l.unread Syntax) (refl, refl) (inl (Syntax, (place, read), refl))
  stops text from s (WideInt place) read on endless faultless =
      faultless [] from s (l.unread Size) (refl, refl) (inl (Size, (place, inl read), refl))
  stops text from s (TooMany place) read on endless faultless =
      faultless [] from s (l.unread Size) (refl, refl) (inl (Size, (place, inr (inl read)), refl))
  stops text from s (TooBig place) read on endless faultless =
      faultless [] from s (l.unread Size) (refl, refl) (inl (Size, (place, inr (inr read)), refl))
  stops text from s (Found t n) read on endless faultless =
      no_gap s t
      (λ next leads. on t n next read
      (λ ts end last more nothing. endless (t ∷ ts) end last (n, next, read, leads, more) nothing)
      (λ ts end last why more faulty. faultless (t ∷ ts) end last why (n, next, read, leads, more) faulty))
      (λ why refuses. faultless [] from s why (refl, refl) (inr (t, n, read, refuses)))

  some_course : (room : ℕ) (text : List ℕ) (from : ℕ) (s : S) → from ≤ length text → length text < from + room
      → NeverEnds text from s → NeverFails text from s → ⊥
  some_course zero text from s inside near endless faultless = absurd (omega (arith, inside, near))
  some_course (suc room) text from s inside near endless faultless =
      some_reading true (length text) (drop from text) (λ a read.
      stops text from s a read
      (λ t n next found never fails.
      let place = found_place text from t n inside found in
      some_course room text n next place.1 (omega (arith, near, place.0)) never fails)
      endless faultless)

  pub some_end : (text : List ℕ) (first : S) → ((last : S) → LeadsToEnd l text first last → ⊥)
      → ((number : ℕ) (why : C) → HasFaultyClause l text first number why → ⊥) → ⊥
  some_end text first endless faultless =
      some_course (suc (length text)) text 0 first (omega arith) (omega arith)
      (λ ts end last clauses nothing. endless last (record { terms = ts; end = end; clauses = clauses; nothing = nothing }))
      (λ ts end last why clauses faulty.
      faultless (length ts + 1) why
      (record { terms = ts; from = end; before = last; clauses = clauses; counted = refl; faulty = faulty }))
