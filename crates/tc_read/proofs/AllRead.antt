-- No text is without a reading.
use Rattle.std.proofs.Common.{◌≡◌, ◌<◌, ◌≤◌, ◌+◌, ◌⊎◌, ℕ, zero, suc, Bool, true, false, nat_lt, List, [], ◌∷◌, ◌++◌, length, Option, Some, None, MatchOption, inl, inr, refl, ap, subst, ⊎_elim, length-append, arith}
use Rattle.std.proofs.lemmas.Bool.{cases_lt}
use Rattle.tc_term.specs.Layouts.{At, Layout, Scan, Stop, TextEnd, ClauseEnd, NoToken, at_clause_end, at_no_token, at_text_end, layout, no_layout, token}
use Rattle.tc_term.specs.Limits.{most_brackets, most_variables}
use Rattle.tc_term.specs.Tokens.{BeginsNone, Lexeme, Longest, SpellsToken}
use Rattle.tc_term.specs.Tree.{Fits}
use Rattle.tc_term.specs.Faults.{Answer, AnswersTokens, Ended, Found, Judged, Nothing, Parsed, Reading, ReadsAs, Stopped, Syntax, TooBig, TooMany, WideInt, When, all_known, first_place, first_wide, most_open, place_behind}
use Rattle.tc_read.proofs.Blanks.{layout_shorter, piece_shorter}
use Rattle.tc_read.proofs.Found.{front_some}

-- a token that stands at the front isn't without a longest one
module _ (text : List ℕ) (none : (s rest : List ℕ) (lexeme : Lexeme) → Longest text s lexeme rest → ⊥) where
  never_longer : (room : ℕ) (s rest : List ℕ) (lexeme : Lexeme) → text ≡ s ++ rest → SpellsToken s lexeme
      → length text ≤ length s + room → ⊥
  never_longer zero s rest lexeme split spelled near = none s rest lexeme (record {
    split = split;
    spelled = spelled;
    longest = λ other behind l e h. omega (arith, near, ap length e, length-append other behind);
  })
  never_longer (suc room) s rest lexeme split spelled near = none s rest lexeme (record {
    split = split;
    spelled = spelled;
    longest = λ other behind l e h.
        ⊎_elim
        (λ (longer : length s < length other). absurd (never_longer room other behind l e h (omega (arith, near, longer))))
        (λ (most : length other ≤ length s). most)
        (cases_lt (length s) (length other));
  })

  never_begins : BeginsNone text
  never_begins s rest lexeme split spelled = never_longer (length text) s rest lexeme split spelled (omega arith)

-- nor is a text without layout in front, which may be none
some_layout : (room : ℕ) (s : List ℕ) → length s < room → ((mid : List ℕ) → Layout s mid → ⊥) → ⊥
some_layout zero s few none = absurd (omega (arith, few))
some_layout (suc room) s few none =
    none s (no_layout (λ rest piece.
    some_layout room rest (omega (arith, few, piece_shorter piece)) (λ mid more. none mid (layout piece more))))

-- nor without tokens up to an end
scan_behind : (clauses : Bool) (size : ℕ) (s mid : List ℕ) → Layout s mid
    → ((after : List ℕ) → length after < length s → ((ts : List At) (stop : Stop) → Scan clauses size after ts stop → ⊥) → ⊥)
    → ((ts : List At) (stop : Stop) → Scan clauses size s ts stop → ⊥) → ⊥
scan_behind clauses size s [] front on none = none [] TextEnd (at_text_end front)
scan_behind clauses size s (b ∷ rest) front on none =
    none [] _ (at_no_token front
    (never_begins (b ∷ rest) (λ first after lexeme longest.
    on after (omega (arith, layout_shorter front, front_some longest))
    (λ ts stop more. none _ stop (token front longest more))))
    (λ c is end. none [] _ (at_clause_end c (subst (λ d. Layout s (d ∷ rest)) is front) end)))

some_scan : (clauses : Bool) (size room : ℕ) (s : List ℕ) → length s < room
    → ((ts : List At) (stop : Stop) → Scan clauses size s ts stop → ⊥) → ⊥
some_scan clauses size zero s few none = absurd (omega (arith, few))
some_scan clauses size (suc room) s few none =
    some_layout (suc room) s few (λ mid front.
    scan_behind clauses size s mid front
    (λ after less more. some_scan clauses size room after (omega (arith, few, less)) more) none)

-- nor tokens without an answer
some_judgement : (place behind count : ℕ) (r : Reading) → ((a : Answer) → Judged place behind count r a → ⊥) → ⊥
some_judgement place behind count r none = by r.wide (nat_lt most_variables count) none
  where
    by : (o : Option ℕ) (b : Bool)
        → ((a : Answer) → MatchOption o (When b (a ≡ TooMany place) (((a ≡ TooBig place) × (Fits r.term → ⊥)) ⊎ ((a ≡ Found r.term behind) × Fits r.term))) (λ wide. a ≡ WideInt wide) → ⊥)
        → ⊥
    by (Some wide) b never = never (WideInt wide) refl
    by None true never = never (TooMany place) refl
    by None false never = never (TooBig place) (inl (refl, λ fits. never (Found r.term behind) (inr (refl, fits))))

some_parse : (place behind : ℕ) (ts : List At) → ((a : Answer) → Parsed place behind ts a → ⊥) → ⊥
some_parse place behind ts none =
    none (Syntax place) (inl (
      refl,
      λ r is.
          some_judgement place behind (length (all_known [] ts)) r (λ a judged. none a (inr (r, is, judged))),
    ))

some_ended : (size : ℕ) (ts : List At) (stop : Stop) → ((a : Answer) → Ended size ts stop a → ⊥) → ⊥
some_ended size ts stop none = by (nat_lt most_brackets (most_open 0 ts)) none
  where
    by : (b : Bool)
        → ((a : Answer) → When b (a ≡ TooBig (first_place size ts stop)) (Parsed (first_place size ts stop) (place_behind size stop) ts a) → ⊥)
        → ⊥
    by true never = never (TooBig (first_place size ts stop)) refl
    by false never = some_parse (first_place size ts stop) (place_behind size stop) ts never

some_stopped : (clauses : Bool) (size : ℕ) (ts : List At) (stop : Stop) → ((a : Answer) → Stopped clauses size ts stop a → ⊥) → ⊥
some_stopped clauses size ts (NoToken place) none = none (Syntax place) refl
some_stopped clauses size ts (ClauseEnd place) none = some_ended size ts (ClauseEnd place) none
some_stopped true size [] TextEnd none = none Nothing refl
some_stopped true size (t ∷ ts) TextEnd none = none (Syntax size) refl
some_stopped false size ts TextEnd none = some_ended size ts TextEnd none

some_answer : (clauses : Bool) (size : ℕ) (ts : List At) (stop : Stop)
    → ((a : Answer) → AnswersTokens clauses size ts stop a → ⊥) → ⊥
some_answer clauses size ts stop none = by (first_wide ts) none
  where
    by : (o : Option ℕ)
        → ((a : Answer) → MatchOption o (Stopped clauses size ts stop a) (λ place. a ≡ WideInt place) → ⊥) → ⊥
    by (Some place) never = never (WideInt place) refl
    by None never = some_stopped clauses size ts stop never

pub some_reading : (clauses : Bool) (size : ℕ) (s : List ℕ) → ((a : Answer) → ReadsAs clauses size s a → ⊥) → ⊥
some_reading clauses size s none =
    some_scan clauses size (suc (length s)) s (omega arith)
    (λ ts stop scan. some_answer clauses size ts stop (λ a answers. none a (ts, stop, scan, answers)))
