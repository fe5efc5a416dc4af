use Rattle.std.proofs.Common.{◌≡◌, ◌≢◌, ℕ, ◌+◌, ◌-◌, ◌≤◌, Bool, true, false, if◌then◌else◌, ◌||◌, ◌==◌, nat_le, List, [], ◌∷◌, ◌++◌, length, take, drop, Option, Some, None, refl, sym, ◌∙◌, ap, subst, arith}
use Rattle.tc_term.specs.Bytes.{is_variable_start, is_name_start}
use Rattle.std.specs.Char.{is_ascii_digit}
use Rattle.std.specs.Prelude.{is_some}
use Rattle.std.proofs.lemmas.List.{append_assoc, length-append, take_at, drop_at}
use Rattle.tc_term.specs.Tokens.{Lexeme, Word, Variable, Number, Quoted, Symbol, Punctuation, Sign, EqColonEq, EqBackEq, EqLess, GreaterEq, BackEq, SlashSlash, Equal, Less, Greater, Plus, Minus, Star, Ask, sign_bytes, Mark, Open, Close, OpenList, CloseList, Comma, Bar, mark_byte, escape, Inside, closed, doubled, escaped, plain, SpellsToken, BeginsNone}
use Rattle.tc_read.specs.Lexing.{further, or_one, quoted_end, at_quote, at_backslash, Begins}
use Rattle.tc_read.specs.Views.{unquoted, unquoted_from, meant}
use Rattle.tc_read.proofs.Lexemes.{empty_spells}
use Rattle.std.proofs.lemmas.Bool.{eqb-true, eqb-false, ne_eqb, le-leb, leb-true}
use Rattle.std.proofs.lemmas.Option.{same_Some}
use Rattle.tc_lists.proofs.Parts.{cons_head, cons_tail}

-- Quoted tokens.

-- the front of n bytes is the inside of a quoted token
pub record EndsAt (text : List ℕ) (n : ℕ) : Type 0 where
  pub front : List ℕ
  pub rest : List ℕ
  pub meaning : List ℕ
  pub split : text ≡ front ++ rest
  pub size : length front ≡ n
  pub is : Inside front meaning

one_quote : (s : List ℕ) (n : ℕ) → Some 1 ≡ Some n → EndsAt (39 ∷ s) n
one_quote s n e = record { front = 39 ∷ []; rest = s; meaning = []; split = refl; size = omega (arith, same_Some _ _ e); is = closed }

longer : (b c : ℕ) (s : List ℕ) (k n : ℕ) → EndsAt s k → ((f m : List ℕ) → Inside f m → Inside (b ∷ f) (c ∷ m)) → 1 + k ≡ n → EndsAt (b ∷ s) n
longer b c s k n g up e = record { front = b ∷ g.front; rest = g.rest; meaning = c ∷ g.meaning; split = ap (λ x. b ∷ x) g.split; size = omega (arith, g.size); is = up g.front g.meaning g.is }

longer_by_two : (a b c : ℕ) (s : List ℕ) (k n : ℕ) → EndsAt s k → ((f m : List ℕ) → Inside f m → Inside (a ∷ b ∷ f) (c ∷ m)) → 2 + k ≡ n → EndsAt (a ∷ b ∷ s) n
longer_by_two a b c s k n g up e = record { front = a ∷ b ∷ g.front; rest = g.rest; meaning = c ∷ g.meaning; split = ap (λ x. a ∷ b ∷ x) g.split; size = omega (arith, g.size); is = up g.front g.meaning g.is }

at_first : (b c : ℕ) (s : List ℕ) (n : ℕ) → b ≡ c → EndsAt (c ∷ s) n → EndsAt (b ∷ s) n
at_first b c s n e g = subst (λ x. EndsAt (x ∷ s) n) (sym e) g

good_pair : (s : List ℕ) (n : ℕ) (o : Option ℕ) → quoted_end s ≡ o → ((k : ℕ) → quoted_end s ≡ Some k → EndsAt s k) → or_one o ≡ Some n → EndsAt (39 ∷ 39 ∷ s) n
good_pair s n None is ih e = one_quote (39 ∷ s) n e
good_pair s n (Some k) is ih e = longer_by_two 39 39 39 s k n (ih k is) (λ f m x. doubled x) (same_Some _ _ e)

good_second : (b : ℕ) (s : List ℕ) (n : ℕ) (t : Bool) → (b == 39) ≡ t → ((k : ℕ) → quoted_end s ≡ Some k → EndsAt s k) → (if t then or_one (quoted_end s) else Some 1) ≡ Some n → EndsAt (39 ∷ b ∷ s) n
good_second b s n true is ih e = subst (λ x. EndsAt (39 ∷ x ∷ s) n) (sym (eqb-true b 39 is)) (good_pair s n (quoted_end s) refl ih e)
good_second b s n false is ih e = one_quote (b ∷ s) n e

good_further : (k n : ℕ) (o : Option ℕ) → further k o ≡ Some n → (j : ℕ) × (o ≡ Some j) × (k + j ≡ n)
good_further k n None e = cc
good_further k n (Some j) e = (j, refl, same_Some _ _ e)

good_escape : (b : ℕ) (s : List ℕ) (n : ℕ) (o : Option ℕ) → escape b ≡ o → ((k : ℕ) → quoted_end s ≡ Some k → EndsAt s k) → (if is_some o then further 2 (quoted_end s) else None) ≡ Some n → EndsAt (92 ∷ b ∷ s) n
good_escape b s n None is ih e = cc
good_escape b s n (Some c) is ih e = let f = good_further 2 n (quoted_end s) e in longer_by_two 92 b c s f.0 n (ih f.0 f.1) (λ g m x. escaped is x) f.2

good_plain : (b : ℕ) (s : List ℕ) (n : ℕ) (t : Bool) → nat_le 32 b ≡ t → b ≢ 39 → b ≢ 92 → ((k : ℕ) → quoted_end s ≡ Some k → EndsAt s k) → (if t then further 1 (quoted_end s) else None) ≡ Some n → EndsAt (b ∷ s) n
good_plain b s n true is q w ih e = let f = good_further 1 n (quoted_end s) e in longer b b s f.0 n (ih f.0 f.1) (λ g m x. plain (leb-true 32 b is) q w x) f.2
good_plain b s n false is q w ih e = cc

good_other : (b : ℕ) (s : List ℕ) (n : ℕ) (t : Bool) → (b == 92) ≡ t → b ≢ 39 → ((k : ℕ) → quoted_end s ≡ Some k → EndsAt s k) → ((k : ℕ) → at_backslash s ≡ Some k → EndsAt (92 ∷ s) k)
    → (if t then at_backslash s else (if nat_le 32 b then further 1 (quoted_end s) else None)) ≡ Some n → EndsAt (b ∷ s) n
good_other b s n true is q ih back e = at_first b 92 s n (eqb-true b 92 is) (back n e)
good_other b s n false is q ih back e = good_plain b s n (nat_le 32 b) refl q (eqb-false b 92 is) ih e

good_first : (b : ℕ) (s : List ℕ) (n : ℕ) (t : Bool) → (b == 39) ≡ t → ((k : ℕ) → quoted_end s ≡ Some k → EndsAt s k) → ((k : ℕ) → at_quote s ≡ Some k → EndsAt (39 ∷ s) k) → ((k : ℕ) → at_backslash s ≡ Some k → EndsAt (92 ∷ s) k)
    → (if t then at_quote s else (if b == 92 then at_backslash s else (if nat_le 32 b then further 1 (quoted_end s) else None))) ≡ Some n → EndsAt (b ∷ s) n
good_first b s n true is ih quote back e = at_first b 39 s n (eqb-true b 39 is) (quote n e)
good_first b s n false is ih quote back e = good_other b s n (b == 92) refl (eqb-false b 39 is) ih back e

mutual
  pub good : (text : List ℕ) (n : ℕ) → quoted_end text ≡ Some n → EndsAt text n
  good [] n e = cc
  good (b ∷ s) n e = good_first b s n (b == 39) refl (λ k f. good s k f) (λ k f. good_quote s k f) (λ k f. good_backslash s k f) e

  good_quote : (s : List ℕ) (n : ℕ) → at_quote s ≡ Some n → EndsAt (39 ∷ s) n
  good_quote [] n e = one_quote [] n e
  good_quote (b ∷ s) n e = good_second b s n (b == 39) refl (λ k f. good s k f) e

  good_backslash : (s : List ℕ) (n : ℕ) → at_backslash s ≡ Some n → EndsAt (92 ∷ s) n
  good_backslash [] n e = cc
  good_backslash (b ∷ s) n e = good_escape b s n (escape b) refl (λ k f. good s k f) e

-- every inside at the front is at most as long
pub record IsWithin (text : List ℕ) (len : ℕ) : Type 0 where
  pub found : ℕ
  pub at : quoted_end text ≡ Some found
  pub within : len ≤ found

quote_some : (s : List ℕ) (o : Option ℕ) → quoted_end s ≡ o → (n : ℕ) × (or_one (quoted_end s) ≡ Some n) × (1 ≤ n)
quote_some s None e = (1, ap or_one e, omega arith)
quote_some s (Some k) e = (2 + k, ap or_one e, omega arith)

quote_by : (b : ℕ) (s : List ℕ) (t : Bool) → (b == 39) ≡ t → (n : ℕ) × ((if t then or_one (quoted_end s) else Some 1) ≡ Some n) × (1 ≤ n)
quote_by b s true e = quote_some s (quoted_end s) refl
quote_by b s false e = (1, refl, omega arith)

quote_ends : (s : List ℕ) → (n : ℕ) × (at_quote s ≡ Some n) × (1 ≤ n)
quote_ends [] = (1, refl, omega arith)
quote_ends (b ∷ s) = quote_by b s (b == 39) refl

plain_step : (b : ℕ) (s : List ℕ) → 32 ≤ b → b ≢ 39 → b ≢ 92 → quoted_end (b ∷ s) ≡ further 1 (quoted_end s)
plain_step b s h q w =
    ap (λ t. if t then at_quote s else (if b == 92 then at_backslash s else (if nat_le 32 b then further 1 (quoted_end s) else None))) (ne_eqb b 39 q)
    ∙ ap (λ t. if t then at_backslash s else (if nat_le 32 b then further 1 (quoted_end s) else None)) (ne_eqb b 92 w)
    ∙ ap (λ t. if t then further 1 (quoted_end s) else None) (le-leb 32 b h)

pub best : {front meaning : List ℕ} → Inside front meaning → (rest : List ℕ) → IsWithin (front ++ rest) (length front)
best closed rest = let q = quote_ends rest in record { found = q.0; at = q.1; within = q.2 }
best (doubled {s = s} x) rest = let g = best x rest in record { found = 2 + g.found; at = ap or_one g.at; within = omega (arith, g.within) }
best (escaped {b = b} {s = s} is x) rest = let g = best x rest in record { found = 2 + g.found; at = ap (λ o. if is_some o then further 2 (quoted_end (s ++ rest)) else None) is ∙ ap (further 2) g.at; within = omega (arith, g.within) }
best (plain {b = b} {s = s} h q w x) rest = let g = best x rest in record { found = 1 + g.found; at = plain_step b (s ++ rest) h q w ∙ ap (further 1) g.at; within = omega (arith, g.within) }

-- an inside is what stands between the quotes, and the closing one
pub record Between (s meaning : List ℕ) : Type 0 where
  pub raw : List ℕ
  pub closes : s ≡ raw ++ 39 ∷ []
  pub means : meaning ≡ unquoted raw

escape_meant : (b c : ℕ) → escape b ≡ Some c → meant b ≡ c
escape_meant b c e = by (b == 39) (b == 92) (b == 110) (b == 116) refl refl refl refl e
  where
    by : (p q r s : Bool) → (b == 39) ≡ p → (b == 92) ≡ q → (b == 110) ≡ r → (b == 116) ≡ s
        → (if p then Some 39 else (if q then Some 92 else (if r then Some 10 else (if s then Some 9 else None)))) ≡ Some c → (if r then 10 else (if s then 9 else b)) ≡ c
    by true q true s i j k l e = let x = eqb-true b 39 i in let y = eqb-true b 110 k in absurd (omega arith)
    by true q false true i j k l e = let x = eqb-true b 39 i in let y = eqb-true b 116 l in absurd (omega arith)
    by true q false false i j k l e = eqb-true b 39 i ∙ same_Some _ _ e
    by false true true s i j k l e = let x = eqb-true b 92 j in let y = eqb-true b 110 k in absurd (omega arith)
    by false true false true i j k l e = let x = eqb-true b 92 j in let y = eqb-true b 116 l in absurd (omega arith)
    by false true false false i j k l e = eqb-true b 92 j ∙ same_Some _ _ e
    by false false true s i j k l e = same_Some _ _ e
    by false false false true i j k l e = same_Some _ _ e
    by false false false false i j k l e = cc

plain_unquoted : (b : ℕ) (s : List ℕ) → b ≢ 39 → b ≢ 92 → unquoted (b ∷ s) ≡ b ∷ unquoted s
plain_unquoted b s q w =
    ap (λ t. if t || b == 92 then unquoted_from true s else b ∷ unquoted_from false s) (ne_eqb b 39 q)
    ∙ ap (λ t. if t then unquoted_from true s else b ∷ unquoted_from false s) (ne_eqb b 92 w)

pub between : {s meaning : List ℕ} → Inside s meaning → Between s meaning
between closed = record { raw = []; closes = refl; means = refl }
between (doubled x) = let g = between x in record { raw = 39 ∷ 39 ∷ g.raw; closes = ap (λ s. 39 ∷ 39 ∷ s) g.closes; means = ap (λ m. 39 ∷ m) g.means }
between (escaped {b = b} {c = c} is x) = let g = between x in record { raw = 92 ∷ b ∷ g.raw; closes = ap (λ s. 92 ∷ b ∷ s) g.closes; means = (let h = g.means in let k = escape_meant b c is in cc) }
between (plain {b = b} h q w x) = let g = between x in record { raw = b ∷ g.raw; closes = ap (λ s. b ∷ s) g.closes; means = ap (λ m. b ∷ m) g.means ∙ sym (plain_unquoted b g.raw q w) }

-- what stands between the quotes is what lies before the last byte of the inside
inside_is : (text front rest meaning raw : List ℕ) (n : ℕ) → text ≡ front ++ rest → length front ≡ n → front ≡ raw ++ 39 ∷ [] → take (n - 1) text ≡ raw
inside_is text front rest meaning raw n split size closes =
    let all : text ≡ raw ++ 39 ∷ rest = split ∙ ap (λ f. f ++ rest) closes ∙ append_assoc raw (39 ∷ []) rest in
    let long : length raw ≡ n - 1 = omega (arith, ap length closes, length-append raw (39 ∷ [])) in
    ap (take (n - 1)) all ∙ take_at raw (39 ∷ rest) (n - 1) long

quote_lower : (b : ℕ) → b ≡ 39 → is_name_start b ≡ false
quote_lower b e = ap is_name_start e

quote_start : (b : ℕ) → b ≡ 39 → is_variable_start b ≡ false
quote_start b e = ap is_variable_start e

quote_digit : (b : ℕ) → b ≡ 39 → is_ascii_digit b ≡ false
quote_digit b e = ap is_ascii_digit e

unequal : (b m n : ℕ) → b ≡ m → (m == n) ≡ false → b ≡ n → ⊥
unequal b m n e f h = let g = eqb-false m n f in g (sym e ∙ h)

quote_no_sign : (t : Sign) (b : ℕ) (s : List ℕ) → b ∷ s ≡ sign_bytes t → b ≡ 39 → ⊥
quote_no_sign EqColonEq b s e = unequal b 61 39 (cons_head e) refl
quote_no_sign EqBackEq b s e = unequal b 61 39 (cons_head e) refl
quote_no_sign EqLess b s e = unequal b 61 39 (cons_head e) refl
quote_no_sign GreaterEq b s e = unequal b 62 39 (cons_head e) refl
quote_no_sign BackEq b s e = unequal b 92 39 (cons_head e) refl
quote_no_sign SlashSlash b s e = unequal b 47 39 (cons_head e) refl
quote_no_sign Equal b s e = unequal b 61 39 (cons_head e) refl
quote_no_sign Less b s e = unequal b 60 39 (cons_head e) refl
quote_no_sign Greater b s e = unequal b 62 39 (cons_head e) refl
quote_no_sign Plus b s e = unequal b 43 39 (cons_head e) refl
quote_no_sign Minus b s e = unequal b 45 39 (cons_head e) refl
quote_no_sign Star b s e = unequal b 42 39 (cons_head e) refl
quote_no_sign Ask b s e = unequal b 63 39 (cons_head e) refl

quote_no_mark : (t : Mark) (b : ℕ) (s : List ℕ) → b ∷ s ≡ mark_byte t ∷ [] → b ≡ 39 → ⊥
quote_no_mark Open b s e = unequal b 40 39 (cons_head e) refl
quote_no_mark Close b s e = unequal b 41 39 (cons_head e) refl
quote_no_mark OpenList b s e = unequal b 91 39 (cons_head e) refl
quote_no_mark CloseList b s e = unequal b 93 39 (cons_head e) refl
quote_no_mark Comma b s e = unequal b 44 39 (cons_head e) refl
quote_no_mark Bar b s e = unequal b 124 39 (cons_head e) refl

goes_on_quote : (b : ℕ) (s : List ℕ) (l : Lexeme) → b ≡ 39 → SpellsToken (b ∷ s) l → (m : List ℕ) × Inside s m
goes_on_quote b s (Word w) h k = let f = quote_lower b h in let g = k.1.0 in cc
goes_on_quote b s (Variable w) h k = let f = quote_start b h in let g = k.1.0 in cc
goes_on_quote b s (Number n) h k = let f = quote_digit b h in let g = k.1.0 in cc
goes_on_quote b s (Quoted m) h k = (m, k.1)
goes_on_quote b s (Symbol t) h k = absurd (quote_no_sign t b s k h)
goes_on_quote b s (Punctuation t) h k = absurd (quote_no_mark t b s k h)

within_end : (t s rest m : List ℕ) (n : ℕ) → t ≡ s ++ rest → Inside s m → quoted_end t ≡ Some n → length s ≤ n
within_end t s rest m n e x at = let g = best x rest in let same : g.found ≡ n = same_Some _ _ (sym g.at ∙ ap quoted_end (sym e) ∙ at) in omega (arith, g.within)

pub begins_quoted : (t : List ℕ) (n : ℕ) → quoted_end t ≡ Some n → Begins (39 ∷ t) (Quoted (unquoted (take (n - 1) t))) (drop n t)
begins_quoted t n at =
    let g = good t n at in
    let w = between g.is in
    let rest : drop n t ≡ g.rest = ap (drop n) g.split ∙ drop_at g.front g.rest n g.size in (
      39 ∷ g.front,
      record {
        split = ap (λ x. 39 ∷ x) (g.split ∙ ap (λ r. g.front ++ r) (sym rest));
        spelled = (refl, subst (Inside g.front) (w.means ∙ ap unquoted (sym (inside_is t g.front g.rest g.meaning w.raw n g.split g.size w.closes))) g.is);
        longest = λ s r l e k. bound g.front g.size s r l e k;
      },
    )
  where
    bound : (f : List ℕ) → length f ≡ n → (s r : List ℕ) (l : Lexeme) → 39 ∷ t ≡ s ++ r → SpellsToken s l → length s ≤ length (39 ∷ f)
    bound f size [] r l e k = omega arith
    bound f size (c ∷ s) r l e k = let x = goes_on_quote c s l (sym (cons_head e)) k in omega (arith, within_end t s r x.0 n (cons_tail e) x.1 at)

pub none_quoted : (t : List ℕ) → quoted_end t ≡ None → BeginsNone (39 ∷ t)
none_quoted t at [] r l e k = empty_spells l k
none_quoted t at (c ∷ s) r l e k = let x = goes_on_quote c s l (sym (cons_head e)) k in let g = best x.1 r in let same : None ≡ Some g.found = sym at ∙ ap quoted_end (cons_tail e) ∙ g.at in cc

inside_some : {s m : List ℕ} → Inside s m → 1 ≤ length s
inside_some closed = omega arith
inside_some (doubled x) = omega arith
inside_some (escaped e x) = omega arith
inside_some (plain h q w x) = omega arith

pub ends_within : (t : List ℕ) (n : ℕ) → quoted_end t ≡ Some n → (1 ≤ n) × (n ≤ length t)
ends_within t n e =
    let g = good t n e in
    (omega (arith, inside_some g.is, g.size), omega (arith, g.size, ap length g.split, length-append g.front g.rest))
