use Rattle.std.proofs.Common.{◌≡◌, ℕ, ◌+◌, ◌<◌, ◌≤◌, inl, inr, Bool, true, false, List, [], ◌∷◌, map, length, None, Result, Ok, Err, refl, sym, ◌∙◌, ap, subst, arith, ◌↔◌, MatchOption}
use Rattle.std.specs.List.{range_with_len}
use Rattle.tc_term.specs.Variables.{variables}
use Rattle.tc_term.specs.Layouts.{At, Stop, ClauseEnd, Scan, at_clause_end, token}
use Rattle.tc_term.specs.Grammar.{IsTerm}
use Rattle.tc_term.specs.Faults.{Reading, numbered, all_known, first_wide, Answer, Syntax, WideInt, TooBig, first_place, place_behind, When, Judged, Parsed, Ended, Stopped, ReadsAs}
use Rattle.tc_term.specs.declared.template.Pattern.{Pattern}
use Rattle.tc_read.specs.Kept.{Kept, kept, kept_of}
use Rattle.tc_read.specs.Items.{kept_item}
use Rattle.tc_read.specs.Views.{token_view}
use Rattle.tc_read.specs.Variables.{names_view}
use Rattle.tc_read.specs.Scanner.{first_at, Gathers}
use Rattle.tc_read.specs.ReadAnswers.{IsFault, IsTermAnswer, place_by}
use Rattle.tc_read.specs.declared.fault.ReadFault.{ReadFault}
use Rattle.tc_read.specs.declared.fault.ReadFault.TheVariants as fault
use Rattle.tc_read.specs.declared.measured.Item.{Item}
use Rattle.tc_read.specs.declared.scanner.Scanner.{Scanner}
use Rattle.tc_read.proofs.Meanings.{read_of, none_read}
use Rattle.tc_read.proofs.Order.{variables_read}
use Rattle.tc_read.proofs.Integers.{integers_read}
use Rattle.tc_read.specs.Judging.{IsRead}
use Rattle.tc_read.proofs.Blanks.{layout_shorter}
use Rattle.tc_read.proofs.Found.{front_some}

-- What the tokens are answers for the text.

pub fault_of : (P Q : Answer → Type 0) → ((a : Answer) → P a → Q a) → (f : ReadFault) → IsFault P f → IsFault Q f
fault_of P Q g (fault.Syntax place) h = g _ h
fault_of P Q g (fault.WideInt place) h = g _ h
fault_of P Q g (fault.TooMany place) h = g _ h
fault_of P Q g (fault.TooBig place) h = g _ h
fault_of P Q g fault.NoMemory h = h

pub answer_of : (P Q : Answer → Type 0) → ((a : Answer) → P a → Q a) → (behind : ℕ) (r : Result Pattern ReadFault) → IsTermAnswer P behind r → IsTermAnswer Q behind r
answer_of P Q g behind (Ok p) h = g _ h
answer_of P Q g behind (Err f) h = fault_of P Q g f h

first_place_is : (size end : ℕ) (ts : List At) (stop : Stop) → first_place size [] stop ≡ end → first_place size ts stop ≡ place_by (first_at ts) end
first_place_is size end [] stop e = e
first_place_is size end (t ∷ ts) stop e = refl

module _ (s : Scanner) (size end behind : ℕ) (ts : List At) (stop : Stop) (g : Gathers s ts) (narrow : first_wide ts ≡ None) (at_end : first_place size [] stop ≡ end) (at_behind : place_behind size stop ≡ behind) where
  placed : first_place size ts stop ≡ place_by s.first end
  placed = first_place_is size end ts stop at_end ∙ ap (λ o. place_by o end) (sym g.first)

  pub ended_deep : s.brackets.too_many ≡ true → Ended size ts stop (TooBig (place_by s.first end))
  ended_deep e = subst (λ b. When b (TooBig (place_by s.first end) ≡ TooBig (first_place size ts stop)) (Parsed (first_place size ts stop) (place_behind size stop) ts (TooBig (place_by s.first end)))) (sym e ∙ g.brackets.beyond) (ap TooBig (sym placed))

  parsed_ended : (a : Answer) → s.brackets.too_many ≡ false → Parsed (place_by s.first end) behind ts a → Ended size ts stop a
  parsed_ended a e h =
      subst (λ b. When b (a ≡ TooBig (first_place size ts stop)) (Parsed (first_place size ts stop) (place_behind size stop) ts a)) (sym e ∙ g.brackets.beyond)
      (subst (λ p. Parsed p (place_behind size stop) ts a) (sym placed) (subst (λ q. Parsed (place_by s.first end) q ts a) (sym at_behind) h))

  tokens_are : map token_view s.tokens.items ≡ numbered [] ts
  tokens_are = g.tokens narrow

  pub ended_syntax : s.brackets.too_many ≡ false → ((k : Kept) → IsTerm kept (map token_view s.tokens.items) k → ⊥) → Ended size ts stop (Syntax (place_by s.first end))
  ended_syntax e none = parsed_ended (Syntax (place_by s.first end)) e (inl (refl, λ r d. none_read (numbered [] ts) (λ k x. none k (subst (λ tokens. IsTerm kept tokens k) (sym tokens_are) x)) r d))

  known_is : length (names_view s.variables) ≡ length (all_known [] ts)
  known_is = ap length g.names

  -- what was parsed has been read
  pub ended_read : (item : Item) (n : ℕ) → ((k : Kept) → IsTerm kept (map token_view s.tokens.items) k ↔ (kept_item item ≡ k)) → n ≡ length (names_view s.variables)
      → IsRead (kept_item item) n
  ended_read item n only count =
      let x = read_of (numbered [] ts) (kept_item item) (subst (λ tokens. IsTerm kept tokens (kept_item item)) tokens_are ((only (kept_item item)).1 refl)) in
      let same : n ≡ length (all_known [] ts) = count ∙ known_is in
      record {
        reading = x.0;
        kept = x.2;
        numbered = λ few. subst (λ m. variables (x.0).term ≡ range_with_len 0 m) (sym same) (variables_read ts x.0 (omega (arith, same, few)) x.1);
        integers = integers_read (numbered [] ts) x.0 x.1;
      }

  pub ended_judged : (item : Item) (n : ℕ) (result : Result Pattern ReadFault) → s.brackets.too_many ≡ false → ((k : Kept) → IsTerm kept (map token_view s.tokens.items) k ↔ (kept_item item ≡ k)) → n ≡ length (names_view s.variables)
      → ((behind : ℕ) (r : Reading) → kept_of r ≡ kept_item item → (n ≤ 256 → variables r.term ≡ range_with_len 0 n) → IsTermAnswer (Judged (place_by s.first end) behind n r) behind result)
      → IsTermAnswer (Ended size ts stop) behind result
  ended_judged item n result e only count judged =
      let x = read_of (numbered [] ts) (kept_item item) (subst (λ tokens. IsTerm kept tokens (kept_item item)) tokens_are ((only (kept_item item)).1 refl)) in
      let same : n ≡ length (all_known [] ts) = count ∙ known_is in
      let j = judged behind x.0 x.2 (λ few. subst (λ m. variables (x.0).term ≡ range_with_len 0 m) (sym same) (variables_read ts x.0 (omega (arith, same, few)) x.1)) in
      answer_of (Judged (place_by s.first end) behind n x.0) (Ended size ts stop) (λ a h. parsed_ended a e (inr (x.0, x.1, subst (λ m. Judged (place_by s.first end) behind m x.0 a) same h))) behind result j

pub to_read : (clauses : Bool) (size : ℕ) (s : List ℕ) (ts : List At) (stop : Stop) → Scan clauses size s ts stop → first_wide ts ≡ None → (a : Answer) → Stopped clauses size ts stop a → ReadsAs clauses size s a
to_read clauses size s ts stop scan narrow a h = (ts, stop, scan, subst (λ o. MatchOption o (Stopped clauses size ts stop a) (λ place. a ≡ WideInt place)) (sym narrow) h)

-- the end token of a clause lies in the text
pub end_within : {clauses : Bool} {size : ℕ} {s : List ℕ} {ts : List At} {place : ℕ} → Scan clauses size s ts (ClauseEnd place) → length s ≤ size → place + 1 ≤ size
end_within (at_clause_end c l e) h = omega (arith, layout_shorter l)
end_within (token l t k) h = end_within k (omega (arith, layout_shorter l, front_some t))

-- a . ends nothing where a whole text is read
no_clause_end : {size : ℕ} {s : List ℕ} {ts : List At} {place : ℕ} → Scan false size s ts (ClauseEnd place) → ⊥
no_clause_end (at_clause_end c l e) = cc
no_clause_end (token l t k) = no_clause_end k

pub no_end : (size : ℕ) (s : List ℕ) (ts : List At) (place : ℕ) → Scan false size s ts (ClauseEnd place) → ⊥
no_end size s ts place k = no_clause_end k

-- and behind its beginning
pub end_beyond : {clauses : Bool} {size : ℕ} {s : List ℕ} {ts : List At} {place : ℕ} → Scan clauses size s ts (ClauseEnd place) → length s ≤ size → size < place + 1 + length s
end_beyond (at_clause_end c l e) h = omega (arith, layout_shorter l)
end_beyond (token l t k) h = omega (arith, end_beyond k (omega (arith, layout_shorter l, front_some t)), layout_shorter l, front_some t)
