use Rattle.std.proofs.Common.{◌≡◌, ℕ, suc, ◌-◌, ◌==◌, ◌⊎◌, inl, inr, Bool, true, false, nat_lt, List, [], ◌∷◌, length, Option, Some, None, refl, sym, ◌∙◌, ap, subst, MatchOption}
use Rattle.tc_term.specs.Tree.{Fits}
use Rattle.tc_term.specs.Tokens.{Lexeme, Longest, BeginsNone}
use Rattle.tc_term.specs.Layouts.{ToLineEnd, at_end, at_line_feed, in_line, ToBlockEnd, at_block_end, in_block, Piece, blank, line, block, Layout, no_layout, layout, IsBehindEnd, At, Stop, TextEnd, ClauseEnd, NoToken, Scan, at_text_end, at_clause_end, at_no_token, token}
use Rattle.tc_term.specs.Faults.{Reading, reading, numbered, all_known, first_wide, most_open, Answer, WideInt, TooMany, TooBig, Found, first_place, place_behind, When, Judged, Parsed, Ended, Unended, Stopped, AnswersTokens, ReadsAs}
use Rattle.tc_read.proofs.Lexemes.{none_empty}
use Rattle.tc_read.proofs.OneLexeme.{longest_same, dot_begins_none}
use Rattle.tc_read.proofs.Unique.{one_term}
use Rattle.tc_lists.proofs.Parts.{cons_head, cons_tail}

-- A text has one reading at most.

line_same : {s r q : List ℕ} → ToLineEnd s r → ToLineEnd s q → r ≡ q
line_same at_end at_end = refl
line_same at_line_feed at_line_feed = refl
line_same at_line_feed (in_line n t) = absurd (n refl)
line_same (in_line n t) at_line_feed = absurd (n refl)
line_same (in_line n t) (in_line m u) = line_same t u

block_same : {s r q : List ℕ} → ToBlockEnd s r → ToBlockEnd s q → r ≡ q
block_same at_block_end at_block_end = refl
block_same at_block_end (in_block n t) = absurd (n (refl, refl))
block_same (in_block n t) at_block_end = absurd (n (refl, refl))
block_same (in_block n t) (in_block m u) = block_same t u

piece_same : {s r q : List ℕ} → Piece s r → Piece s q → r ≡ q
piece_same (blank e) (blank f) = refl
piece_same (blank e) (line t) = cc
piece_same (blank e) (block t) = cc
piece_same (line t) (blank e) = cc
piece_same (line t) (line u) = line_same t u
piece_same (block t) (blank e) = cc
piece_same (block t) (block u) = block_same t u

pub layout_same : {s r q : List ℕ} → Layout s r → Layout s q → r ≡ q
layout_same (no_layout n) (no_layout m) = refl
layout_same (no_layout n) (layout p l) = absurd (n _ p)
layout_same (layout p l) (no_layout n) = absurd (n _ p)
layout_same {q = q} (layout {mid = mid} p l) (layout {mid = mid'} r k) = layout_same l (subst (λ x. Layout x q) (piece_same r p) k)

-- what two scans of a text find
record Same (ts us : List At) (stop stop' : Stop) : Type 0 where
  pub tokens : ts ≡ us
  pub stops : stop ≡ stop'

both : (ts : List At) (stop : Stop) → Same ts ts stop stop
both ts stop = record { tokens = refl; stops = refl }

clause_or_none : {clauses : Bool} {after : List ℕ} {b : ℕ} {rest : List ℕ} → clauses ≡ true → IsBehindEnd after → (clauses ≡ true → b ≡ 46 → IsBehindEnd rest → ⊥) → 46 ∷ after ≡ b ∷ rest → ⊥
clause_or_none {after = after} c end none e = none c (sym (cons_head e)) (subst IsBehindEnd (cons_tail e) end)

end_or_token : {after mid front rest : List ℕ} {lexeme : Lexeme} → 46 ∷ after ≡ mid → Longest mid front lexeme rest → ⊥
end_or_token {after = after} {front = front} {rest = rest} {lexeme = lexeme} e l = dot_begins_none after front rest lexeme (e ∙ l.split) l.spelled

none_or_token : {mid other front rest : List ℕ} {lexeme : Lexeme} → mid ≡ other → BeginsNone mid → Longest other front lexeme rest → ⊥
none_or_token {front = front} {rest = rest} {lexeme = lexeme} e none l = none front rest lexeme (e ∙ l.split) l.spelled

empty_or_token : {mid front rest : List ℕ} {lexeme : Lexeme} → [] ≡ mid → Longest mid front lexeme rest → ⊥
empty_or_token {front = front} {rest = rest} {lexeme = lexeme} e l = none_empty front rest lexeme (e ∙ l.split) l.spelled

scan_same : {clauses : Bool} {size : ℕ} {s : List ℕ} {ts us : List At} {stop stop' : Stop} → Scan clauses size s ts stop → Scan clauses size s us stop' → Same ts us stop stop'
scan_same (at_text_end l) (at_text_end k) = both _ _
scan_same (at_text_end l) (at_clause_end c k e) = let same = layout_same l k in cc
scan_same (at_text_end l) (at_no_token k n e) = let same = layout_same l k in cc
scan_same (at_text_end l) (token k t h) = absurd (empty_or_token (layout_same l k) t)
scan_same (at_clause_end c l e) (at_text_end k) = let same = layout_same l k in cc
scan_same {size = size} (at_clause_end c l e) (at_clause_end d k f) = record { tokens = refl; stops = ap (λ n. ClauseEnd (size - suc (length n))) (cons_tail (layout_same l k)) }
scan_same (at_clause_end c l e) (at_no_token k n f) = absurd (clause_or_none c e f (layout_same l k))
scan_same (at_clause_end c l e) (token k t h) = absurd (end_or_token (layout_same l k) t)
scan_same (at_no_token l n e) (at_text_end k) = let same = layout_same l k in cc
scan_same (at_no_token l n e) (at_clause_end d k f) = absurd (clause_or_none d f e (layout_same k l))
scan_same {size = size} (at_no_token l n e) (at_no_token k m f) = record { tokens = refl; stops = ap (λ x. NoToken (size - suc (length x))) (cons_tail (layout_same l k)) }
scan_same (at_no_token l n e) (token k t h) = absurd (none_or_token (layout_same l k) n t)
scan_same (token l t h) (at_text_end k) = absurd (empty_or_token (layout_same k l) t)
scan_same (token l t h) (at_clause_end d k f) = absurd (end_or_token (layout_same k l) t)
scan_same (token l t h) (at_no_token k m f) = absurd (none_or_token (layout_same k l) m t)
scan_same {clauses = clauses} {size = size} {s = s} {us = us'} {stop' = stop'} (token {mid = mid} {front = f} {after = a} {lexeme = x} {ts = ts} l t h) (token {mid = mid'} {front = g} {after = b} {lexeme = y} {ts = us} {stop = stop2} k u j) =
    let m : mid' ≡ mid = layout_same k l in
    let r = longest_same mid f g a b x y t (subst (λ z. Longest z g y b) m u) in
    let next = scan_same h (subst (λ z. Scan clauses size z us stop2) (sym r.1) j) in
    let tokens = next.tokens in
    let first : (let at : At = record { lexeme = x; place = size - length mid; glued = length s == length mid } in at) ≡ record { lexeme = y; place = size - length mid'; glued = length s == length mid' } = (let e = r.0 in cc) in
    record { tokens = cc; stops = next.stops }

match_same : {T : Type 0} (o : Option ℕ) (P Q : T → Type 0) (f : ℕ → T) (a b : T) → ((a b : T) → P a → P b → a ≡ b) → MatchOption o (P a) (λ n. a ≡ f n) → MatchOption o (P b) (λ n. b ≡ f n) → a ≡ b
match_same None P Q f a b same x y = same a b x y
match_same (Some n) P Q f a b same x y = x ∙ sym y

when_same : {T : Type 0} (c : Bool) (P : T → Type 0) (k a b : T) → ((a b : T) → P a → P b → a ≡ b) → When c (a ≡ k) (P a) → When c (b ≡ k) (P b) → a ≡ b
when_same true P k a b same x y = x ∙ sym y
when_same false P k a b same x y = same a b x y

fitting_same : (place behind : ℕ) (r : Reading) (a b : Answer) → ((a ≡ TooBig place) × (Fits r.term → ⊥)) ⊎ ((a ≡ Found r.term behind) × Fits r.term)
    → ((b ≡ TooBig place) × (Fits r.term → ⊥)) ⊎ ((b ≡ Found r.term behind) × Fits r.term) → a ≡ b
fitting_same place behind r a b (inl x) (inl y) = x.0 ∙ sym y.0
fitting_same place behind r a b (inl x) (inr y) = absurd (x.1 y.1)
fitting_same place behind r a b (inr x) (inl y) = absurd (y.1 x.1)
fitting_same place behind r a b (inr x) (inr y) = x.0 ∙ sym y.0

abbrev Fitting : ℕ → ℕ → Reading → Answer → Type 0
Fitting place behind r a = ((a ≡ TooBig place) × (Fits r.term → ⊥)) ⊎ ((a ≡ Found r.term behind) × Fits r.term)

judged_same : (place behind count : ℕ) (r : Reading) (a b : Answer) → Judged place behind count r a → Judged place behind count r b → a ≡ b
judged_same place behind count r a b x y =
    match_same r.wide (λ c. When (nat_lt 256 count) (c ≡ TooMany place) (Fitting place behind r c)) (λ c. ⊥) WideInt a b
    (λ c d h k. when_same (nat_lt 256 count) (Fitting place behind r) (TooMany place) c d (fitting_same place behind r) h k) x y

parsed_same : (place behind : ℕ) (ts : List At) (a b : Answer) → Parsed place behind ts a → Parsed place behind ts b → a ≡ b
parsed_same place behind ts a b (inl x) (inl y) = x.0 ∙ sym y.0
parsed_same place behind ts a b (inl x) (inr y) = absurd (x.1 y.0 y.1)
parsed_same place behind ts a b (inr x) (inl y) = absurd (y.1 x.0 x.1)
parsed_same place behind ts a b (inr x) (inr y) =
    judged_same place behind (length (all_known [] ts)) x.0 a b x.2
    (subst (λ r. Judged place behind (length (all_known [] ts)) r b) (one_term reading (numbered [] ts) y.0 x.0 y.1 x.1) y.2)

ended_same : (size : ℕ) (ts : List At) (stop : Stop) (a b : Answer) → Ended size ts stop a → Ended size ts stop b → a ≡ b
ended_same size ts stop a b x y =
    when_same (nat_lt 200 (most_open 0 ts)) (Parsed (first_place size ts stop) (place_behind size stop) ts) (TooBig (first_place size ts stop)) a b (parsed_same (first_place size ts stop) (place_behind size stop) ts) x y

unended_same : (size : ℕ) (ts : List At) (a b : Answer) → Unended size ts a → Unended size ts b → a ≡ b
unended_same size [] a b x y = x ∙ sym y
unended_same size (t ∷ ts) a b x y = x ∙ sym y

stopped_same : (clauses : Bool) (size : ℕ) (ts : List At) (stop : Stop) (a b : Answer) → Stopped clauses size ts stop a → Stopped clauses size ts stop b → a ≡ b
stopped_same clauses size ts (NoToken place) a b x y = x ∙ sym y
stopped_same clauses size ts (ClauseEnd place) a b x y = ended_same size ts (ClauseEnd place) a b x y
stopped_same true size ts TextEnd a b x y = unended_same size ts a b x y
stopped_same false size ts TextEnd a b x y = ended_same size ts TextEnd a b x y

answers_same : (clauses : Bool) (size : ℕ) (ts : List At) (stop : Stop) (a b : Answer) → AnswersTokens clauses size ts stop a → AnswersTokens clauses size ts stop b → a ≡ b
answers_same clauses size ts stop a b x y = match_same (first_wide ts) (Stopped clauses size ts stop) (λ c. ⊥) WideInt a b (stopped_same clauses size ts stop) x y

pub one_reading : (clauses : Bool) (size : ℕ) (s : List ℕ) (a b : Answer) → ReadsAs clauses size s a → ReadsAs clauses size s b → a ≡ b
one_reading clauses size s a b x y =
    let same = scan_same y.2 x.2 in
    answers_same clauses size x.0 x.1 a b x.3 (subst (λ ts. AnswersTokens clauses size ts x.1 b) same.tokens (subst (λ stop. AnswersTokens clauses size y.0 stop b) same.stops y.3))
