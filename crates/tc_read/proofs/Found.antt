use Rattle.std.proofs.Common.{◌≡◌, ℕ, suc, ◌-◌, ◌<◌, ◌==◌, Bool, true, List, [], ◌∷◌, ◌++◌, length, refl, sym, ap, subst, arith}
use Rattle.std.proofs.lemmas.List.{append_assoc, append-nil, length-append}
use Rattle.tc_term.specs.Tokens.{Lexeme, Longest, BeginsNone}
use Rattle.tc_term.specs.Layouts.{Layout, At, Stop, TextEnd, ClauseEnd, NoToken, Scan, at_text_end, at_clause_end, at_no_token, token}
use Rattle.tc_read.specs.Lexing.{Begins}
use Rattle.tc_read.specs.Scan.{IsClauseEnd}
use Rattle.tc_read.specs.Scanner.{Gathers}
use Rattle.tc_read.specs.declared.scanner.Scanner.{Scanner}
use Rattle.tc_read.proofs.Blanks.{layout_shorter}
use Rattle.tc_read.proofs.Lexemes.{nothing_of}

-- What stands next.

pub found_text_end : (clauses : Bool) (size : ℕ) (s mid : List ℕ) → Layout s mid → length mid ≡ 0 → Scan clauses size s [] TextEnd
found_text_end clauses size s [] l e = at_text_end l
found_text_end clauses size s (b ∷ mid) l e = absurd (omega arith)

pub found_end : (clauses : Bool) (size place : ℕ) (s mid : List ℕ) → Layout s mid → clauses ≡ true → IsClauseEnd mid → place ≡ size - length mid → Scan clauses size s [] (ClauseEnd place)
found_end clauses size place s [] l c e p = absurd e
found_end clauses size place s (b ∷ after) l c e p =
    let length_is : length (b ∷ after) ≡ suc (length after) = refl in
    subst (λ x. Scan clauses size s [] (ClauseEnd x)) (sym p) (at_clause_end c (subst (λ x. Layout s (x ∷ after)) e.0 l) e.1)

pub found_none : (clauses : Bool) (size place : ℕ) (s mid : List ℕ) → Layout s mid → (length mid ≡ 0 → ⊥) → BeginsNone mid → (clauses ≡ true → IsClauseEnd mid → ⊥) → place ≡ size - length mid → Scan clauses size s [] (NoToken place)
found_none clauses size place s [] l n b e p = absurd (n refl)
found_none clauses size place s (b ∷ rest) l n none e p = subst (λ x. Scan clauses size s [] (NoToken x)) (sym p) (at_no_token l none (λ c is end. e c (is, end)))

pub front_some : {text s rest : List ℕ} {lexeme : Lexeme} → Longest text s lexeme rest → length rest < length text
front_some {text = text} {s = s} {rest = rest} {lexeme = lexeme} l =
    let some : length s ≡ 0 → ⊥ = λ z. nothing_of s lexeme l.spelled z in
    omega (arith, ap length l.split, length-append s rest, some)

pub found_token : (clauses : Bool) (size place : ℕ) (glued : Bool) (s mid after : List ℕ) (lexeme : Lexeme) → Layout s mid → Begins mid lexeme after → place ≡ size - length mid → glued ≡ (length s == length mid)
    → ((ts : List At) (stop : Stop) → Scan clauses size after ts stop → Scan clauses size s (record { lexeme = lexeme; place = place; glued = glued } ∷ ts) stop) × (length after < length s)
found_token clauses size place glued s mid after lexeme l b p g = (
  λ ts stop h. subst (λ x. Scan clauses size s (record { lexeme = lexeme; place = x; glued = glued } ∷ ts) stop) (sym p) (subst (λ x. Scan clauses size s (record { lexeme = lexeme; place = size - length mid; glued = x } ∷ ts) stop) (sym g) (token l b.1 h)),
  omega (arith, front_some b.1, layout_shorter l),
)

-- What the loop over the tokens keeps: those before, which any tokens of the rest go on from.
pub record Scanning (clauses : Bool) (size : ℕ) (text rest : List ℕ) (s : Scanner) : Type 0 where
  pub before : List At
  pub continues : (ts : List At) (stop : Stop) → Scan clauses size rest ts stop → Scan clauses size text (before ++ ts) stop
  pub gathers : Gathers s before

pub scanning_first : (clauses : Bool) (size : ℕ) (text : List ℕ) (s : Scanner) → Gathers s [] → Scanning clauses size text text s
scanning_first clauses size text s g = record { before = []; continues = λ ts stop h. h; gathers = g }

pub scanning_end : (clauses : Bool) (size : ℕ) (text rest : List ℕ) (s : Scanner) (stop : Stop) → Scanning clauses size text rest s → Scan clauses size rest [] stop → (ts : List At) × Scan clauses size text ts stop × Gathers s ts
scanning_end clauses size text rest s stop k h = (k.before, subst (λ ts. Scan clauses size text ts stop) (append-nil k.before) (k.continues [] stop h), k.gathers)

pub scanning_next : (clauses : Bool) (size : ℕ) (text rest after : List ℕ) (s s' : Scanner) (t : At) → Scanning clauses size text rest s
    → ((ts : List At) (stop : Stop) → Scan clauses size after ts stop → Scan clauses size rest (t ∷ ts) stop) → ((before : List At) → Gathers s before → Gathers s' (before ++ t ∷ [])) → Scanning clauses size text after s'
scanning_next clauses size text rest after s s' t k next gathers = record {
  before = k.before ++ t ∷ [];
  continues = λ ts stop h. subst (λ x. Scan clauses size text x stop) (sym (append_assoc k.before (t ∷ []) ts)) (k.continues (t ∷ ts) stop (next ts stop h));
  gathers = gathers k.before k.gathers;
}
