use Rattle.std.proofs.Common.{◌≡◌, ℕ, ◌-◌, ◌≤◌, Bool, true, false, ◌&&◌, ◌==◌, if◌then◌else◌, List, [], ◌∷◌, length, Option, Some, None, refl, subst, arith, ◌⊎◌, inl, inr, nat_lt, MatchOption}
use Rattle.tc_term.specs.Bytes.{is_word, is_name_byte, is_name_start}
use Rattle.std.specs.Prelude.{codes, bytes_eq}
use Rattle.std.specs.List.{list_all, AllByRecursion}
use Rattle.std.proofs.lemmas.Bool.Decides.{nat_tests}
use Rattle.tc_term.specs.Tree.{Tree, Fits}
use Rattle.tc_term.specs.Tokens.{Sign, EqColonEq, EqBackEq, EqLess, GreaterEq, BackEq, SlashSlash, Equal, Less, Greater, Plus, Minus, Star, Ask, sign_bytes, Lexeme, Word, Variable, Number, Quoted, Symbol, Punctuation, Mark, Inside, closed, doubled, escaped, plain, escape, SpellsToken}
use Rattle.tc_term.specs.Tokens as spelled
use Rattle.tc_term.specs.Layouts.{At, Stop, TextEnd, ClauseEnd, NoToken, Scan, at_text_end, at_clause_end, at_no_token, token}
use Rattle.tc_term.specs.Grammar.{Token, Operator, infix_of, operator_of, functor_of, xfx, yfx, Derives, operand, prefix, infix_term, Operand, variable, integer, negative, atom, compound, no_items, items, group, Arguments, last_argument, more_arguments, Items, last_item, list_tail, more_items, IsTerm}
use Rattle.tc_term.specs.Grammar as grammar
use Rattle.tc_term.specs.Faults as faults
use Rattle.tc_term.specs.Faults.{Reading, reading, trees, terms, numbered, all_known, known_behind, token_of, mark_of, first_wide, most_open, first_place, place_behind, WideInt, TooMany, TooBig, Found, When, Parsed, Unended, Stopped}
use Rattle.tc_term.specs.NameBytes.{has_read_names, have_read_names}
use Rattle.std.proofs.lemmas.Bool.{and_from}
use Rattle.std.proofs.lemmas.Option.{same_Some}

-- The names of a term that is read.

abbrev IsName : List ℕ → Type 0
IsName name = list_all is_name_byte name ≡ true

abbrev IsNamed : Token → Type 0
IsNamed (grammar.Name b name) = IsName name
IsNamed _ = Unit {0}

abbrev AreNamed : List Token → Type 0
AreNamed [] = Unit {0}
AreNamed (t ∷ ts) = IsNamed t × AreNamed ts

sign_named : (s : Sign) → IsName (sign_bytes s)
sign_named EqColonEq = refl
sign_named EqBackEq = refl
sign_named EqLess = refl
sign_named GreaterEq = refl
sign_named BackEq = refl
sign_named SlashSlash = refl
sign_named Equal = refl
sign_named Less = refl
sign_named Greater = refl
sign_named Plus = refl
sign_named Minus = refl
sign_named Star = refl
sign_named Ask = refl

operator_named : (s : Sign) → IsName (operator_of s).name
operator_named EqColonEq = refl
operator_named EqBackEq = refl
operator_named EqLess = refl
operator_named GreaterEq = refl
operator_named BackEq = refl
operator_named SlashSlash = refl
operator_named Equal = refl
operator_named Less = refl
operator_named Greater = refl
operator_named Plus = refl
operator_named Minus = refl
operator_named Star = refl
operator_named Ask = refl

along : (op o : Operator) → IsName o.name → Some o ≡ Some op → IsName op.name
along op o h e = subst (λ (q : Operator). IsName q.name) (same_Some _ _ e) h

word_operator_named : (b c : Bool) (op : Operator) → (if b then Some (xfx (codes "is") 700) else (if c then Some (yfx (codes "mod") 400) else None)) ≡ Some op → IsName op.name
word_operator_named true c op e = along op (xfx (codes "is") 700) refl e
word_operator_named false true op e = along op (yfx (codes "mod") 400) refl e
word_operator_named false false op e = cc

infix_named : (t : Token) (op : Operator) → infix_of t ≡ Some op → IsName op.name
infix_named grammar.Comma op e = along op (grammar.xfy (codes ",") 1000) refl e
infix_named (grammar.Symbol s) op e = along op (operator_of s) (operator_named s) e
infix_named (grammar.Name true name) op e = word_operator_named (bytes_eq name (codes "is")) (bytes_eq name (codes "mod")) op e
infix_named (grammar.Name false name) op e = cc
infix_named (grammar.Variable n) op e = cc
infix_named (grammar.Integer g n p) op e = cc
infix_named (grammar.Open g) op e = cc
infix_named grammar.Close op e = cc
infix_named grammar.OpenList op e = cc
infix_named grammar.CloseList op e = cc
infix_named grammar.Bar op e = cc

functor_named : (t : Token) (name : List ℕ) → IsNamed t → functor_of t ≡ Some name → IsName name
functor_named (grammar.Name b n) name h e = subst IsName (same_Some _ _ e) h
functor_named (grammar.Symbol s) name h e = subst IsName (same_Some _ _ e) (sign_named s)
functor_named (grammar.Variable n) name h e = cc
functor_named (grammar.Integer g n p) name h e = cc
functor_named (grammar.Open g) name h e = cc
functor_named grammar.Close name h e = cc
functor_named grammar.OpenList name h e = cc
functor_named grammar.CloseList name h e = cc
functor_named grammar.Comma name h e = cc
functor_named grammar.Bar name h e = cc

-- a term of named tokens, and named tokens behind it
record Named (r : Reading) (rest : List Token) : Type 0 where
  pub names : has_read_names r.term ≡ true
  pub left : AreNamed rest

record NamedAll (r : Reading) (more : List Reading) (rest : List Token) : Type 0 where
  pub names : have_read_names (trees r.term (terms more)) ≡ true
  pub left : AreNamed rest

mutual
  named : {p : ℕ} {ts rest : List Token} {r : Reading} → Derives reading p ts r rest → AreNamed ts → Named r rest
  named (operand o) h = named_operand o h
  named (prefix {a = a} le c k d) h = let n = named d h.1 in record { names = n.names; left = n.left }
  named (infix_term {token = t} {a = a} {b = b} op is le l r) h =
      let n = named l h in
      let m = named r n.left.1 in
      record { names = and_from (list_all is_name_byte op.name) (has_read_names a.term && has_read_names b.term) (infix_named t op is) (and_from (has_read_names a.term) (has_read_names b.term) n.names m.names); left = m.left }

  named_operand : {ts rest : List Token} {r : Reading} → Operand reading ts r rest → AreNamed ts → Named r rest
  named_operand variable h = record { names = refl; left = h.1 }
  named_operand integer h = record { names = refl; left = h.1 }
  named_operand negative h = record { names = refl; left = h.1.1 }
  named_operand (atom c) h = record { names = h.0; left = h.1 }
  named_operand (compound {token = t} {name = name} {a = a} {more = more} is x) h =
      let n = named_arguments x h.1.1 in
      record { names = and_from (list_all is_name_byte name) (have_read_names (trees a.term (terms more))) (functor_named t name h.0 is) n.names; left = n.left }
  named_operand no_items h = record { names = refl; left = h.1.1 }
  named_operand (items x) h = named_items x h.1
  named_operand (group d) h = let n = named d h.1 in record { names = n.names; left = n.left.1 }

  named_arguments : {ts rest : List Token} {r : Reading} {more : List Reading} → Arguments reading ts r more rest → AreNamed ts → NamedAll r more rest
  named_arguments (last_argument d) h = let n = named d h in record { names = n.names; left = n.left.1 }
  named_arguments (more_arguments {a = a} {b = b} {more = more} d x) h =
      let n = named d h in
      let m = named_arguments x n.left.1 in
      record { names = and_from (has_read_names a.term) (have_read_names (trees b.term (terms more))) n.names m.names; left = m.left }

  named_items : {ts rest : List Token} {r : Reading} → Items reading ts r rest → AreNamed ts → Named r rest
  named_items (last_item {a = a} d) h = let n = named d h in record { names = and_from (has_read_names a.term) true n.names refl; left = n.left.1 }
  named_items (list_tail {a = a} {b = b} d e) h =
      let n = named d h in
      let m = named e n.left.1 in
      record { names = and_from (has_read_names a.term) (has_read_names b.term) n.names m.names; left = m.left.1 }
  named_items (more_items {a = a} {b = b} d x) h =
      let n = named d h in
      let m = named_items x n.left.1 in
      record { names = and_from (has_read_names a.term) (has_read_names b.term) n.names m.names; left = m.left }

-- The names of tokens.

word_byte : (b : ℕ) → is_word b ≡ true → is_name_byte b ≡ true
word_byte b h = grind (arith, nat_tests)

lower_byte : (b : ℕ) → is_name_start b ≡ true → is_name_byte b ≡ true
lower_byte b h = grind (arith, nat_tests)

high_byte : (b : ℕ) → 32 ≤ b → is_name_byte b ≡ true
high_byte b h = grind (arith, nat_tests)

words_named : (s : List ℕ) → AllByRecursion (λ c. is_word c ≡ true) s → IsName s
words_named [] h = refl
words_named (b ∷ s) h = and_from (is_name_byte b) (list_all is_name_byte s) (word_byte b h.0) (words_named s h.1)

word_named : (s : List ℕ) → spelled.IsWordFrom is_name_start s → IsName s
word_named [] h = absurd h
word_named (b ∷ s) h = and_from (is_name_byte b) (list_all is_name_byte s) (lower_byte b h.0) (words_named s h.1)

escape_byte : (b c : ℕ) → escape b ≡ Some c → is_name_byte c ≡ true
escape_byte b c e = by (b == 39) (b == 92) (b == 110) (b == 116) e
  where
    at : (n : ℕ) → Some n ≡ Some c → is_name_byte n ≡ true → is_name_byte c ≡ true
    at n f h = subst (λ x. is_name_byte x ≡ true) (same_Some _ _ f) h

    by : (p q r s : Bool) → (if p then Some 39 else (if q then Some 92 else (if r then Some 10 else (if s then Some 9 else None)))) ≡ Some c → is_name_byte c ≡ true
    by true q r s e = at 39 e refl
    by false true r s e = at 92 e refl
    by false false true s e = at 10 e refl
    by false false false true e = at 9 e refl
    by false false false false e = cc

inside_named : {s m : List ℕ} → Inside s m → IsName m
inside_named closed = refl
inside_named (doubled {m = m} x) = inside_named x
inside_named (escaped {b = b} {c = c} {m = m} e x) = and_from (is_name_byte c) (list_all is_name_byte m) (escape_byte b c e) (inside_named x)
inside_named (plain {b = b} {m = m} h q w x) = and_from (is_name_byte b) (list_all is_name_byte m) (high_byte b h) (inside_named x)

quoted_named : (s m : List ℕ) → spelled.IsQuoted s m → IsName m
quoted_named [] m h = absurd h
quoted_named (b ∷ s) m h = inside_named h.1

mark_named : (g : Bool) (t : Mark) → IsNamed (mark_of g t)
mark_named g spelled.Open = tt
mark_named g spelled.Close = tt
mark_named g spelled.OpenList = tt
mark_named g spelled.CloseList = tt
mark_named g spelled.Comma = tt
mark_named g spelled.Bar = tt

lexeme_named : (known : List (List ℕ)) (g : Bool) (place : ℕ) (s : List ℕ) (l : Lexeme) → SpellsToken s l → IsNamed (token_of known g place l)
lexeme_named known g place s (Word w) k = subst IsName k.0 (word_named s k.1)
lexeme_named known g place s (Variable w) k = tt
lexeme_named known g place s (Number n) k = tt
lexeme_named known g place s (Quoted m) k = quoted_named s m k
lexeme_named known g place s (Symbol t) k = tt
lexeme_named known g place s (Punctuation t) k = mark_named g t

scan_named : {clauses : Bool} {size : ℕ} {s : List ℕ} {ts : List At} {stop : Stop} → Scan clauses size s ts stop → (known : List (List ℕ)) → AreNamed (numbered known ts)
scan_named (at_text_end l) known = tt
scan_named (at_clause_end c l e) known = tt
scan_named (at_no_token l n e) known = tt
scan_named {size = size} {s = s} (token {mid = mid} {front = front} {lexeme = lexeme} l t k) known = (lexeme_named known (length s == length mid) (size - length mid) front lexeme t.spelled, scan_named k (known_behind known lexeme))

pub names_read : {clauses : Bool} {size : ℕ} {s : List ℕ} {ts : List At} {stop : Stop} {r : Reading} → Scan clauses size s ts stop → IsTerm reading (numbered [] ts) r → has_read_names r.term ≡ true
names_read k d = (named d (scan_named k [])).names

-- a term that is found is what the tokens are read as
term_judged : (place behind : ℕ) (r : Reading) (t : Tree) (e : ℕ) (o : Option ℕ) (b : Bool)
    → MatchOption o (When b (Found t e ≡ TooMany place) (((Found t e ≡ TooBig place) × (Fits r.term → ⊥)) ⊎ ((Found t e ≡ Found r.term behind) × Fits r.term))) (λ w. Found t e ≡ WideInt w) → r.term ≡ t
term_judged place behind r t e (Some w) b h = cc
term_judged place behind r t e None true h = cc
term_judged place behind r t e None false (inl h) = let x = h.0 in cc
term_judged place behind r t e None false (inr h) = let x = h.0 in cc

named_parsed : {clauses : Bool} {size : ℕ} {s : List ℕ} {ts : List At} {stop : Stop} (place behind : ℕ) (t : Tree) (e : ℕ) → Scan clauses size s ts stop → Parsed place behind ts (Found t e) → has_read_names t ≡ true
named_parsed place behind t e k (inl h) = let x = h.0 in cc
named_parsed {ts = ts} place behind t e k (inr h) =
    subst (λ u. has_read_names u ≡ true) (term_judged place behind h.0 t e (h.0).wide (nat_lt 256 (length (all_known [] ts))) h.2) (names_read k h.1)

named_ended : {clauses : Bool} {size : ℕ} {s : List ℕ} {ts : List At} {stop : Stop} (b : Bool) (place behind : ℕ) (t : Tree) (e : ℕ) → Scan clauses size s ts stop → When b (Found t e ≡ TooBig place) (Parsed place behind ts (Found t e)) → has_read_names t ≡ true
named_ended true place behind t e k h = cc
named_ended false place behind t e k h = named_parsed place behind t e k h

named_unended : (size : ℕ) (ts : List At) (t : Tree) (e : ℕ) → Unended size ts (Found t e) → has_read_names t ≡ true
named_unended size [] t e h = cc
named_unended size (x ∷ ts) t e h = cc

named_stopped : (clauses : Bool) (size : ℕ) (s : List ℕ) (ts : List At) (stop : Stop) (t : Tree) (e : ℕ) → Scan clauses size s ts stop → Stopped clauses size ts stop (Found t e) → has_read_names t ≡ true
named_stopped clauses size s ts (NoToken place) t e k h = cc
named_stopped clauses size s ts (ClauseEnd place) t e k h = named_ended (nat_lt 200 (most_open 0 ts)) (first_place size ts (ClauseEnd place)) (place_behind size (ClauseEnd place)) t e k h
named_stopped true size s ts TextEnd t e k h = named_unended size ts t e h
named_stopped false size s ts TextEnd t e k h = named_ended (nat_lt 200 (most_open 0 ts)) (first_place size ts TextEnd) (place_behind size TextEnd) t e k h

named_answers : (clauses : Bool) (size : ℕ) (s : List ℕ) (ts : List At) (stop : Stop) (t : Tree) (e : ℕ) (o : Option ℕ) → Scan clauses size s ts stop → MatchOption o (Stopped clauses size ts stop (Found t e)) (λ place. Found t e ≡ WideInt place) → has_read_names t ≡ true
named_answers clauses size s ts stop t e (Some place) k h = cc
named_answers clauses size s ts stop t e None k h = named_stopped clauses size s ts stop t e k h

pub names_found : (clauses : Bool) (size : ℕ) (s : List ℕ) (t : Tree) (e : ℕ) → faults.ReadsAs clauses size s (Found t e) → has_read_names t ≡ true
names_found clauses size s t e h = named_answers clauses size s h.0 h.1 t e (first_wide h.0) h.2 h.3
