use Rattle.std.proofs.Common.{take-append-drop, ◌≡◌, ℕ, ◌+◌, ◌≤◌, ◌⊎◌, inl, inr, Bool, true, false, List, [], ◌∷◌, ◌++◌, length, take, drop, Option, Some, None, refl, sym, ◌∙◌, ap, subst, arith}
use Rattle.tc_term.specs.Bytes.{is_word, is_variable_start, is_name_start}
use Rattle.std.specs.Char.{is_ascii_digit}
use Rattle.std.specs.List.{AllByRecursion, prefix_len}
use Rattle.std.proofs.lemmas.Bool.Decides.{nat_tests}
use Rattle.std.proofs.lemmas.List.Folds.{length-prefix_len}
use Rattle.tc_term.specs.Tokens.{Sign, EqColonEq, EqBackEq, EqLess, GreaterEq, BackEq, SlashSlash, Equal, Less, Greater, Plus, Minus, Star, Ask, sign_bytes, Mark, Open, Close, OpenList, CloseList, Comma, Bar, mark_byte, Lexeme, Word, Variable, Number, Quoted, Symbol, Punctuation, decimal_from, SpellsToken, Longest, BeginsNone}
use Rattle.tc_read.specs.Lexing.{is_mark, equal_sign, greater_sign, sign_at, Begins}
use Rattle.tc_lists.proofs.Parts.{cons_head, cons_tail}
use Rattle.tc_lists.proofs.Runs.{length-le-prefix_len, take-prefix_len_passes}

-- What the first byte tells.

digit_is_word : (b : ℕ) → is_ascii_digit b ≡ true → is_word b ≡ true
digit_is_word b h = grind (arith, nat_tests)

pub lower_is_word : (b : ℕ) → is_name_start b ≡ true → is_word b ≡ true
lower_is_word b h = grind (arith, nat_tests)

pub no_word_no_digit : (b : ℕ) → is_word b ≡ false → is_ascii_digit b ≡ false
no_word_no_digit b h = grind (arith, nat_tests)

start_is_word : (b : ℕ) → is_variable_start b ≡ true → is_word b ≡ true
start_is_word b h = grind (arith, nat_tests)

digit_not_lower : (b : ℕ) → is_ascii_digit b ≡ true → is_name_start b ≡ true → ⊥
digit_not_lower b h k = grind (arith, nat_tests)

digit_not_start : (b : ℕ) → is_ascii_digit b ≡ true → is_variable_start b ≡ true → ⊥
digit_not_start b h k = grind (arith, nat_tests)

digits_are_words : (s : List ℕ) → AllByRecursion (λ c. is_ascii_digit c ≡ true) s → AllByRecursion (λ c. is_word c ≡ true) s
digits_are_words [] h = tt
digits_are_words (b ∷ s) h = (digit_is_word b h.0, digits_are_words s h.1)

word_at : (b n : ℕ) → b ≡ n → is_word n ≡ false → is_word b ≡ true → ⊥
word_at b n e f t = let g : is_word b ≡ is_word n = ap is_word e in cc

-- no symbol and no punctuation begins with a word's byte
sign_no_word : (t : Sign) (b : ℕ) (s : List ℕ) → b ∷ s ≡ sign_bytes t → is_word b ≡ true → ⊥
sign_no_word EqColonEq b s e = word_at b 61 (cons_head e) refl
sign_no_word EqBackEq b s e = word_at b 61 (cons_head e) refl
sign_no_word EqLess b s e = word_at b 61 (cons_head e) refl
sign_no_word GreaterEq b s e = word_at b 62 (cons_head e) refl
sign_no_word BackEq b s e = word_at b 92 (cons_head e) refl
sign_no_word SlashSlash b s e = word_at b 47 (cons_head e) refl
sign_no_word Equal b s e = word_at b 61 (cons_head e) refl
sign_no_word Less b s e = word_at b 60 (cons_head e) refl
sign_no_word Greater b s e = word_at b 62 (cons_head e) refl
sign_no_word Plus b s e = word_at b 43 (cons_head e) refl
sign_no_word Minus b s e = word_at b 45 (cons_head e) refl
sign_no_word Star b s e = word_at b 42 (cons_head e) refl
sign_no_word Ask b s e = word_at b 63 (cons_head e) refl

mark_no_word : (t : Mark) (b : ℕ) (s : List ℕ) → b ∷ s ≡ mark_byte t ∷ [] → is_word b ≡ true → ⊥
mark_no_word Open b s e = word_at b 40 (cons_head e) refl
mark_no_word Close b s e = word_at b 41 (cons_head e) refl
mark_no_word OpenList b s e = word_at b 91 (cons_head e) refl
mark_no_word CloseList b s e = word_at b 93 (cons_head e) refl
mark_no_word Comma b s e = word_at b 44 (cons_head e) refl
mark_no_word Bar b s e = word_at b 124 (cons_head e) refl

-- behind a word's byte a token goes on with word bytes
goes_on_word : (b : ℕ) (s : List ℕ) (l : Lexeme) → is_word b ≡ true → SpellsToken (b ∷ s) l → AllByRecursion (λ c. is_word c ≡ true) s
goes_on_word b s (Word w) h k = k.1.1
goes_on_word b s (Variable w) h k = k.1.1
goes_on_word b s (Number n) h k = digits_are_words s k.1.1
goes_on_word b s (Quoted m) h k = absurd (word_at b 39 k.0 refl h)
goes_on_word b s (Symbol t) h k = absurd (sign_no_word t b s k h)
goes_on_word b s (Punctuation t) h k = absurd (mark_no_word t b s k h)

goes_on_digit : (b : ℕ) (s : List ℕ) (l : Lexeme) → is_ascii_digit b ≡ true → SpellsToken (b ∷ s) l → AllByRecursion (λ c. is_ascii_digit c ≡ true) s
goes_on_digit b s (Word w) h k = absurd (digit_not_lower b h k.1.0)
goes_on_digit b s (Variable w) h k = absurd (digit_not_start b h k.1.0)
goes_on_digit b s (Number n) h k = k.1.1
goes_on_digit b s (Quoted m) h k = absurd (word_at b 39 k.0 refl (digit_is_word b h))
goes_on_digit b s (Symbol t) h k = absurd (sign_no_word t b s k (digit_is_word b h))
goes_on_digit b s (Punctuation t) h k = absurd (mark_no_word t b s k (digit_is_word b h))

-- The longest word, variable and number.

module _ (p : ℕ → Bool) (b : ℕ) (t : List ℕ) (goes : (s : List ℕ) (l : Lexeme) → SpellsToken (b ∷ s) l → AllByRecursion (λ c. p c ≡ true) s) where
  run_bound : (s rest : List ℕ) (l : Lexeme) → b ∷ t ≡ s ++ rest → SpellsToken s l → length s ≤ 1 + prefix_len p t
  run_bound [] rest l e k = omega arith
  run_bound (c ∷ s) rest l e k =
      let here : c ≡ b = sym (cons_head e) in
      let there : s ++ rest ≡ t = sym (cons_tail e) in
      let passes : AllByRecursion (λ c. p c ≡ true) s = goes s l (subst (λ x. SpellsToken (x ∷ s) l) here k) in
      omega (arith, length-le-prefix_len p s rest passes, ap (prefix_len p) there)

  by_run : (l : Lexeme) → SpellsToken (b ∷ take (prefix_len p t) t) l → Longest (b ∷ t) (b ∷ take (prefix_len p t) t) l (drop (prefix_len p t) t)
  by_run l k = record {
    split = ap (λ s. b ∷ s) (sym (take-append-drop (prefix_len p t) t));
    spelled = k;
    longest = λ s rest l' e h. omega (arith, run_bound s rest l' e h, taken t);
  }
    where
      taken : (xs : List ℕ) → length (take (prefix_len p xs) xs) ≡ prefix_len p xs
      taken xs = length-prefix_len p xs

pub begins_word : (b : ℕ) (t : List ℕ) → is_name_start b ≡ true → Begins (b ∷ t) (Word (b ∷ take (prefix_len is_word t) t)) (drop (prefix_len is_word t) t)
begins_word b t h = (_, by_run is_word b t (λ s l k. goes_on_word b s l (lower_is_word b h) k) (Word (b ∷ take (prefix_len is_word t) t)) (refl, (h, take-prefix_len_passes is_word t)))

pub begins_variable : (b : ℕ) (t : List ℕ) → is_variable_start b ≡ true → Begins (b ∷ t) (Variable (b ∷ take (prefix_len is_word t) t)) (drop (prefix_len is_word t) t)
begins_variable b t h = (_, by_run is_word b t (λ s l k. goes_on_word b s l (start_is_word b h) k) (Variable (b ∷ take (prefix_len is_word t) t)) (refl, (h, take-prefix_len_passes is_word t)))

pub begins_number : (b : ℕ) (t : List ℕ) → is_ascii_digit b ≡ true → Begins (b ∷ t) (Number (decimal_from 0 (b ∷ take (prefix_len is_ascii_digit t) t))) (drop (prefix_len is_ascii_digit t) t)
begins_number b t h = (_, by_run is_ascii_digit b t (λ s l k. goes_on_digit b s l h k) (Number (decimal_from 0 (b ∷ take (prefix_len is_ascii_digit t) t))) (refl, (h, take-prefix_len_passes is_ascii_digit t)))

-- Punctuation.

mark_at : (b n : ℕ) → b ≡ n → is_mark n ≡ false → is_mark b ≡ true → ⊥
mark_at b n e f t = let g : is_mark b ≡ is_mark n = ap is_mark e in cc

sign_no_mark : (t : Sign) (b : ℕ) (s : List ℕ) → b ∷ s ≡ sign_bytes t → is_mark b ≡ true → ⊥
sign_no_mark EqColonEq b s e = mark_at b 61 (cons_head e) refl
sign_no_mark EqBackEq b s e = mark_at b 61 (cons_head e) refl
sign_no_mark EqLess b s e = mark_at b 61 (cons_head e) refl
sign_no_mark GreaterEq b s e = mark_at b 62 (cons_head e) refl
sign_no_mark BackEq b s e = mark_at b 92 (cons_head e) refl
sign_no_mark SlashSlash b s e = mark_at b 47 (cons_head e) refl
sign_no_mark Equal b s e = mark_at b 61 (cons_head e) refl
sign_no_mark Less b s e = mark_at b 60 (cons_head e) refl
sign_no_mark Greater b s e = mark_at b 62 (cons_head e) refl
sign_no_mark Plus b s e = mark_at b 43 (cons_head e) refl
sign_no_mark Minus b s e = mark_at b 45 (cons_head e) refl
sign_no_mark Star b s e = mark_at b 42 (cons_head e) refl
sign_no_mark Ask b s e = mark_at b 63 (cons_head e) refl

word_no_mark : (b : ℕ) → is_word b ≡ true → is_mark b ≡ true → ⊥
word_no_mark b h k = grind (arith, nat_tests)

mark_alone : (b : ℕ) (s : List ℕ) (l : Lexeme) → is_mark b ≡ true → SpellsToken (b ∷ s) l → length s ≡ 0
mark_alone b s (Word w) h k = absurd (word_no_mark b (lower_is_word b k.1.0) h)
mark_alone b s (Variable w) h k = absurd (word_no_mark b (start_is_word b k.1.0) h)
mark_alone b s (Number n) h k = absurd (word_no_mark b (digit_is_word b k.1.0) h)
mark_alone b s (Quoted m) h k = absurd (mark_at b 39 k.0 refl h)
mark_alone b s (Symbol t) h k = absurd (sign_no_mark t b s k h)
mark_alone b s (Punctuation t) h k = ap length (cons_tail k)

pub begins_mark : (mark : Mark) (t : List ℕ) → is_mark (mark_byte mark) ≡ true → Begins (mark_byte mark ∷ t) (Punctuation mark) t
begins_mark mark t h = (mark_byte mark ∷ [], record { split = refl; spelled = refl; longest = λ s rest l e k. bound s rest l e k })
  where
    bound : (s rest : List ℕ) (l : Lexeme) → mark_byte mark ∷ t ≡ s ++ rest → SpellsToken s l → length s ≤ 1
    bound [] rest l e k = omega arith
    bound (c ∷ s) rest l e k = omega (arith, mark_alone (mark_byte mark) s l h (subst (λ x. SpellsToken (x ∷ s) l) (sym (cons_head e)) k))

-- Symbols.

word_no_sign : (b : ℕ) → is_word b ≡ false → (is_name_start b ≡ true → ⊥) × (is_variable_start b ≡ true → ⊥) × (is_ascii_digit b ≡ true → ⊥)
word_no_sign b f = (λ h. let t = lower_is_word b h in cc, λ h. let t = start_is_word b h in cc, λ h. let t = digit_is_word b h in cc)

mark_is : (t : Mark) (b : ℕ) (s : List ℕ) → b ∷ s ≡ mark_byte t ∷ [] → is_mark b ≡ true
mark_is Open b s e = ap is_mark (cons_head e)
mark_is Close b s e = ap is_mark (cons_head e)
mark_is OpenList b s e = ap is_mark (cons_head e)
mark_is CloseList b s e = ap is_mark (cons_head e)
mark_is Comma b s e = ap is_mark (cons_head e)
mark_is Bar b s e = ap is_mark (cons_head e)

-- a token behind another first byte is a symbol
only_sign : (b : ℕ) (s : List ℕ) (l : Lexeme) → is_word b ≡ false → (b ≡ 39 → ⊥) → is_mark b ≡ false → SpellsToken (b ∷ s) l → (t : Sign) × (b ∷ s ≡ sign_bytes t)
only_sign b s (Word w) f q m k = absurd ((word_no_sign b f).0 k.1.0)
only_sign b s (Variable w) f q m k = absurd ((word_no_sign b f).1 k.1.0)
only_sign b s (Number n) f q m k = absurd ((word_no_sign b f).2 k.1.0)
only_sign b s (Quoted x) f q m k = absurd (q k.0)
only_sign b s (Symbol t) f q m k = (t, k)
only_sign b s (Punctuation t) f q m k = let h = mark_is t b s k in cc

sign_long : (t : Sign) → 1 ≤ length (sign_bytes t)
sign_long EqColonEq = omega arith
sign_long EqBackEq = omega arith
sign_long EqLess = omega arith
sign_long GreaterEq = omega arith
sign_long BackEq = omega arith
sign_long SlashSlash = omega arith
sign_long Equal = omega arith
sign_long Less = omega arith
sign_long Greater = omega arith
sign_long Plus = omega arith
sign_long Minus = omega arith
sign_long Star = omega arith
sign_long Ask = omega arith

abbrev pub sign_of : List ℕ → Option Sign
sign_of [] = None
sign_of (b ∷ s) = sign_at b s

-- where a symbol stands, the one that is found is at least as long
found : (u : Sign) (r : List ℕ) → (t : Sign) × (sign_of (sign_bytes u ++ r) ≡ Some t) × (length (sign_bytes u) ≤ length (sign_bytes t))
found EqColonEq r = (EqColonEq, refl, omega arith)
found EqBackEq r = (EqBackEq, refl, omega arith)
found EqLess r = (EqLess, refl, omega arith)
found GreaterEq r = (GreaterEq, refl, omega arith)
found BackEq r = (BackEq, refl, omega arith)
found SlashSlash r = (SlashSlash, refl, omega arith)
found Equal r = (equal_sign r, refl, sign_long (equal_sign r))
found Less r = (Less, refl, omega arith)
found Greater r = (greater_sign r, refl, sign_long (greater_sign r))
found Plus r = (Plus, refl, omega arith)
found Minus r = (Minus, refl, omega arith)
found Star r = (Star, refl, omega arith)
found Ask r = (Ask, refl, omega arith)

spelled_sign : (b : ℕ) (text s rest : List ℕ) (l : Lexeme) → is_word b ≡ false → (b ≡ 39 → ⊥) → is_mark b ≡ false → b ∷ text ≡ s ++ rest → SpellsToken s l → (length s ≡ 0) ⊎ ((u : Sign) × (s ≡ sign_bytes u))
spelled_sign b text [] rest l f q m e k = inl refl
spelled_sign b text (c ∷ s) rest l f q m e k = let o = only_sign b s l f q m (subst (λ x. SpellsToken (x ∷ s) l) (sym (cons_head e)) k) in inr (o.0, ap (λ x. x ∷ s) (sym (cons_head e)) ∙ o.1)

pub begins_sign : (b : ℕ) (text rest : List ℕ) (t : Sign) → is_word b ≡ false → (b ≡ 39 → ⊥) → is_mark b ≡ false → sign_at b text ≡ Some t → b ∷ text ≡ sign_bytes t ++ rest → Begins (b ∷ text) (Symbol t) rest
begins_sign b text rest t f q m at e = (sign_bytes t, record { split = e; spelled = refl; longest = λ s r l d k. bound s r d (spelled_sign b text s r l f q m d k) })
  where
    bound : (s r : List ℕ) → b ∷ text ≡ s ++ r → (length s ≡ 0) ⊎ ((u : Sign) × (s ≡ sign_bytes u)) → length s ≤ length (sign_bytes t)
    bound s r d (inl z) = omega arith
    bound s r d (inr u) =
        let x = found u.0 r in
        let same : Some x.0 ≡ Some t = sym x.1 ∙ ap sign_of (sym (d ∙ ap (λ y. y ++ r) u.1)) ∙ at in
        let it : x.0 ≡ t = cc in
        omega (arith, x.2, ap length u.1, ap (λ y. length (sign_bytes y)) it)

pub empty_spells : (l : Lexeme) → SpellsToken [] l → ⊥
empty_spells (Word w) k = k.1
empty_spells (Variable w) k = k.1
empty_spells (Number n) k = k.1
empty_spells (Quoted m) k = k
empty_spells (Symbol t) k = let e = ap length k in omega (arith, sign_long t)
empty_spells (Punctuation t) k = cc

pub nothing_of : (s : List ℕ) (l : Lexeme) → SpellsToken s l → length s ≡ 0 → ⊥
nothing_of [] l k z = empty_spells l k
nothing_of (b ∷ s) l k z = omega arith

pub none_sign : (b : ℕ) (text : List ℕ) → is_word b ≡ false → (b ≡ 39 → ⊥) → is_mark b ≡ false → sign_at b text ≡ None → BeginsNone (b ∷ text)
none_sign b text f q m at s rest l e k = by (spelled_sign b text s rest l f q m e k)
  where
    by : (length s ≡ 0) ⊎ ((u : Sign) × (s ≡ sign_bytes u)) → ⊥
    by (inl z) = nothing_of s l k z
    by (inr u) = let x = found u.0 rest in let same : Some x.0 ≡ None = sym x.1 ∙ ap sign_of (sym (e ∙ ap (λ y. y ++ rest) u.1)) ∙ at in cc

pub none_empty : BeginsNone []
none_empty [] rest l e k = empty_spells l k
none_empty (b ∷ s) rest l e k = cc
