use Rattle.std.proofs.Common.{◌≡◌, ℕ, suc, ◌≤◌, Bool, true, false, if◌then◌else◌, nat_le, List, [], ◌∷◌, ◌++◌, length, Option, Some, None, refl, sym, ◌∙◌, ap, arith, add-one}
use Rattle.std.specs.List.{range_with_len, position}
use Rattle.std.specs.Str.{bytes_eq}
use Rattle.std.proofs.lemmas.Bool.Decides.{nat_tests}
use Rattle.std.proofs.lemmas.List.{length-append}
use Rattle.tc_read.proofs.Ranges.{with_number-old, with_number-new}
use Rattle.tc_term.specs.Variables.{with_number, variables_after, variables_after_all, variables}
use Rattle.tc_term.specs.Tokens.{Lexeme, Word, Variable, Number, Quoted, Symbol, Punctuation, Mark}
use Rattle.tc_term.specs.Tokens as spelled
use Rattle.tc_term.specs.Layouts.{At}
use Rattle.tc_term.specs.Grammar.{Token, Operator, infix_of, functor_of, Derives, operand, prefix, infix_term, Operand, variable, integer, negative, atom, compound, no_items, items, group, Arguments, last_argument, more_arguments, Items, last_item, list_tail, more_items, IsTerm}
use Rattle.tc_term.specs.Grammar as grammar
use Rattle.tc_term.specs.Faults.{Reading, reading, trees, terms, all_known, known_behind, known_after, known_by, learned, is_anonymous, number_of, number_by, numbered, token_of, mark_of}
use Rattle.tc_lists.proofs.Positions.{position_within}

-- The variables of a term appear in the order of its tokens.

abbrev seen_after : List ℕ → List Token → List ℕ
seen_after seen [] = seen
seen_after seen (grammar.Variable n ∷ ts) = seen_after (with_number seen n) ts
seen_after seen (_ ∷ ts) = seen_after seen ts

functor_no_variable : (token : Token) (name : List ℕ) (seen : List ℕ) (ts : List Token) → functor_of token ≡ Some name → seen_after seen (token ∷ ts) ≡ seen_after seen ts
functor_no_variable (grammar.Variable n) name seen ts e = cc
functor_no_variable (grammar.Integer g n p) name seen ts e = refl
functor_no_variable (grammar.Name b n) name seen ts e = refl
functor_no_variable (grammar.Symbol s) name seen ts e = refl
functor_no_variable (grammar.Open g) name seen ts e = refl
functor_no_variable grammar.Close name seen ts e = refl
functor_no_variable grammar.OpenList name seen ts e = refl
functor_no_variable grammar.CloseList name seen ts e = refl
functor_no_variable grammar.Comma name seen ts e = refl
functor_no_variable grammar.Bar name seen ts e = refl

infix_no_variable : (token : Token) (op : Operator) (seen : List ℕ) (ts : List Token) → infix_of token ≡ Some op → seen_after seen (token ∷ ts) ≡ seen_after seen ts
infix_no_variable (grammar.Variable n) op seen ts e = cc
infix_no_variable (grammar.Integer g n p) op seen ts e = refl
infix_no_variable (grammar.Name b n) op seen ts e = refl
infix_no_variable (grammar.Symbol s) op seen ts e = refl
infix_no_variable (grammar.Open g) op seen ts e = refl
infix_no_variable grammar.Close op seen ts e = refl
infix_no_variable grammar.OpenList op seen ts e = refl
infix_no_variable grammar.CloseList op seen ts e = refl
infix_no_variable grammar.Comma op seen ts e = refl
infix_no_variable grammar.Bar op seen ts e = refl

mutual
  ordered : {p : ℕ} {ts rest : List Token} {r : Reading} → Derives reading p ts r rest → (seen : List ℕ) → seen_after seen ts ≡ seen_after (variables_after seen r.term) rest
  ordered (operand o) seen = ordered_operand o seen
  ordered (prefix le c k d) seen = ordered d seen
  ordered (infix_term {mid = mid} {token = token} {a = a} op is le l r) seen =
      ordered l seen ∙ infix_no_variable token op (variables_after seen a.term) mid is ∙ ordered r (variables_after seen a.term)

  ordered_operand : {ts rest : List Token} {r : Reading} → Operand reading ts r rest → (seen : List ℕ) → seen_after seen ts ≡ seen_after (variables_after seen r.term) rest
  ordered_operand variable seen = refl
  ordered_operand integer seen = refl
  ordered_operand negative seen = refl
  ordered_operand (atom c) seen = refl
  ordered_operand (compound {token = token} {name = name} {ts = ts} is x) seen = functor_no_variable token name seen (grammar.Open true ∷ ts) is ∙ ordered_arguments x seen
  ordered_operand no_items seen = refl
  ordered_operand (items x) seen = ordered_items x seen
  ordered_operand (group d) seen = ordered d seen

  ordered_arguments : {ts rest : List Token} {r : Reading} {more : List Reading} → Arguments reading ts r more rest → (seen : List ℕ) → seen_after seen ts ≡ seen_after (variables_after_all seen (trees r.term (terms more))) rest
  ordered_arguments (last_argument d) seen = ordered d seen
  ordered_arguments (more_arguments {a = a} d x) seen = ordered d seen ∙ ordered_arguments x (variables_after seen a.term)

  ordered_items : {ts rest : List Token} {r : Reading} → Items reading ts r rest → (seen : List ℕ) → seen_after seen ts ≡ seen_after (variables_after seen r.term) rest
  ordered_items (last_item d) seen = ordered d seen
  ordered_items (list_tail {a = a} d e) seen = ordered d seen ∙ ordered e (variables_after seen a.term)
  ordered_items (more_items {a = a} d x) seen = ordered d seen ∙ ordered_items x (variables_after seen a.term)

-- Numbered by first appearance, they are 0, 1, ..

learned_length : (known : List (List ℕ)) (name : List ℕ) → length (learned known name) ≤ 256 → length (learned known name) ≡ suc (length known)
learned_length known name h = by (nat_le (length known) 256) refl h
  where
    by : (b : Bool) → nat_le (length known) 256 ≡ b → length (if b then known ++ name ∷ [] else known) ≤ 256 → length (if b then known ++ name ∷ [] else known) ≡ suc (length known)
    by true e h = omega (arith, length-append known (name ∷ []))
    by false e h = absurd (grind (arith, nat_tests))

learned_grows : (known : List (List ℕ)) (name : List ℕ) → length known ≤ length (learned known name)
learned_grows known name = by (nat_le (length known) 256)
  where
    by : (b : Bool) → length known ≤ length (if b then known ++ name ∷ [] else known)
    by true = omega (arith, length-append known (name ∷ []))
    by false = omega arith

known_by_grows : (known : List (List ℕ)) (name : List ℕ) (o : Option ℕ) → length known ≤ length (known_by known name o)
known_by_grows known name (Some i) = omega arith
known_by_grows known name None = learned_grows known name

known_after_grows : (known : List (List ℕ)) (name : List ℕ) → length known ≤ length (known_after known name)
known_after_grows known name = by (is_anonymous name)
  where
    by : (b : Bool) → length known ≤ length (if b then learned known [] else known_by known name (position (bytes_eq name) known))
    by true = learned_grows known []
    by false = known_by_grows known name (position (bytes_eq name) known)

known_behind_grows : (known : List (List ℕ)) (l : Lexeme) → length known ≤ length (known_behind known l)
known_behind_grows known (Word w) = omega arith
known_behind_grows known (Variable w) = known_after_grows known w
known_behind_grows known (Number n) = omega arith
known_behind_grows known (Quoted m) = omega arith
known_behind_grows known (Symbol t) = omega arith
known_behind_grows known (Punctuation t) = omega arith

all_known_grows : (known : List (List ℕ)) (ts : List At) → length known ≤ length (all_known known ts)
all_known_grows known [] = omega arith
all_known_grows known (t ∷ ts) = omega (arith, known_behind_grows known t.lexeme, all_known_grows (known_behind known t.lexeme) ts)

new_variable : (known : List (List ℕ)) (name : List ℕ) → length (learned known name) ≤ 256 → with_number (range_with_len 0 (length known)) (length known) ≡ range_with_len 0 (length (learned known name))
new_variable known name h = with_number-new (length known) ∙ ap (range_with_len 0) (add-one (length known) ∙ sym (learned_length known name h))

by_position : (known : List (List ℕ)) (name : List ℕ) (o : Option ℕ) → position (bytes_eq name) known ≡ o → length (known_by known name o) ≤ 256
    → with_number (range_with_len 0 (length known)) (number_by known o) ≡ range_with_len 0 (length (known_by known name o))
by_position known name (Some i) e h = with_number-old (length known) i (position_within (bytes_eq name) known i e)
by_position known name None e h = new_variable known name h

number_step : (known : List (List ℕ)) (name : List ℕ) → length (known_after known name) ≤ 256 → with_number (range_with_len 0 (length known)) (number_of known name) ≡ range_with_len 0 (length (known_after known name))
number_step known name h = by (is_anonymous name) h
  where
    by : (b : Bool) → length (if b then learned known [] else known_by known name (position (bytes_eq name) known)) ≤ 256
        → with_number (range_with_len 0 (length known)) (if b then length known else number_by known (position (bytes_eq name) known)) ≡ range_with_len 0 (length (if b then learned known [] else known_by known name (position (bytes_eq name) known)))
    by true h = new_variable known [] h
    by false h = by_position known name (position (bytes_eq name) known) refl h

mark_step : (seen : List ℕ) (glued : Bool) (mark : Mark) (ts : List Token) → seen_after seen (mark_of glued mark ∷ ts) ≡ seen_after seen ts
mark_step seen glued spelled.Open ts = refl
mark_step seen glued spelled.Close ts = refl
mark_step seen glued spelled.OpenList ts = refl
mark_step seen glued spelled.CloseList ts = refl
mark_step seen glued spelled.Comma ts = refl
mark_step seen glued spelled.Bar ts = refl

token_step : (known : List (List ℕ)) (glued : Bool) (place : ℕ) (l : Lexeme) (ts : List Token) → length (known_behind known l) ≤ 256
    → seen_after (range_with_len 0 (length known)) (token_of known glued place l ∷ ts) ≡ seen_after (range_with_len 0 (length (known_behind known l))) ts
token_step known glued place (Word w) ts h = refl
token_step known glued place (Variable w) ts h = ap (λ s. seen_after s ts) (number_step known w h)
token_step known glued place (Number n) ts h = refl
token_step known glued place (Quoted m) ts h = refl
token_step known glued place (Symbol t) ts h = refl
token_step known glued place (Punctuation t) ts h = mark_step (range_with_len 0 (length known)) glued t ts

ranged : (ts : List At) (known : List (List ℕ)) → length (all_known known ts) ≤ 256 → seen_after (range_with_len 0 (length known)) (numbered known ts) ≡ range_with_len 0 (length (all_known known ts))
ranged [] known h = refl
ranged (t ∷ ts) known h =
    token_step known t.glued t.place t.lexeme (numbered (known_behind known t.lexeme) ts) (omega (arith, all_known_grows (known_behind known t.lexeme) ts))
    ∙ ranged ts (known_behind known t.lexeme) h

-- the variables of a term that is read are 0, 1, .. by first appearance
pub variables_read : (ts : List At) (r : Reading) → length (all_known [] ts) ≤ 256 → IsTerm reading (numbered [] ts) r → variables r.term ≡ range_with_len 0 (length (all_known [] ts))
variables_read ts r h d = sym (ordered d []) ∙ ranged ts [] h
