use Rattle.std.proofs.Common.{◌≡◌, ℕ, true, false, ◌==◌, if◌then◌else◌, List, [], ◌∷◌, ◌++◌, length, Option, Some, None, refl, sym, ◌∙◌, ap, subst, arith}
use Rattle.tc_term.specs.Bytes.{is_variable_start, is_name_start}
use Rattle.std.specs.Char.{is_ascii_digit}
use Rattle.std.proofs.lemmas.Bool.Decides.{nat_tests}
use Rattle.std.proofs.lemmas.List.{length-append}
use Rattle.tc_term.specs.Tokens.{Sign, EqColonEq, EqBackEq, EqLess, GreaterEq, BackEq, SlashSlash, Equal, Less, Greater, Plus, Minus, Star, Ask, sign_bytes, Mark, Open, Close, OpenList, CloseList, Comma, Bar, mark_byte, Lexeme, Word, Variable, Number, Quoted, Symbol, Punctuation, Inside, SpellsToken, Longest, BeginsNone}
use Rattle.tc_read.specs.Lexing.{is_mark}
use Rattle.tc_read.specs.Views.{unquoted}
use Rattle.tc_read.proofs.Lexemes.{empty_spells, sign_of, none_sign}
use Rattle.tc_read.proofs.Quotes.{between}
use Rattle.tc_lists.proofs.Parts.{cons_head, append_parts}

-- One token at most is the longest.

-- the first byte tells the kind
kind : ℕ → ℕ
kind b = if is_name_start b then 1 else (if is_variable_start b then 2 else (if is_ascii_digit b then 3 else (if b == 39 then 4 else (if is_mark b then 5 else 6))))

abbrev kind_of : Lexeme → ℕ
kind_of (Word w) = 1
kind_of (Variable w) = 2
kind_of (Number n) = 3
kind_of (Quoted m) = 4
kind_of (Punctuation t) = 5
kind_of (Symbol t) = 6

start_not_lower : (b : ℕ) → is_variable_start b ≡ true → is_name_start b ≡ false
start_not_lower b h = grind (arith, nat_tests)

digit_not_lower : (b : ℕ) → is_ascii_digit b ≡ true → is_name_start b ≡ false
digit_not_lower b h = grind (arith, nat_tests)

digit_not_start : (b : ℕ) → is_ascii_digit b ≡ true → is_variable_start b ≡ false
digit_not_start b h = grind (arith, nat_tests)

kind_at : (b n k : ℕ) → b ≡ n → kind n ≡ k → kind b ≡ k
kind_at b n k e f = ap kind e ∙ f

sign_kind : (t : Sign) (b : ℕ) (s : List ℕ) → b ∷ s ≡ sign_bytes t → kind b ≡ 6
unfolding kind
sign_kind EqColonEq b s e = kind_at b 61 6 (cons_head e) refl
sign_kind EqBackEq b s e = kind_at b 61 6 (cons_head e) refl
sign_kind EqLess b s e = kind_at b 61 6 (cons_head e) refl
sign_kind GreaterEq b s e = kind_at b 62 6 (cons_head e) refl
sign_kind BackEq b s e = kind_at b 92 6 (cons_head e) refl
sign_kind SlashSlash b s e = kind_at b 47 6 (cons_head e) refl
sign_kind Equal b s e = kind_at b 61 6 (cons_head e) refl
sign_kind Less b s e = kind_at b 60 6 (cons_head e) refl
sign_kind Greater b s e = kind_at b 62 6 (cons_head e) refl
sign_kind Plus b s e = kind_at b 43 6 (cons_head e) refl
sign_kind Minus b s e = kind_at b 45 6 (cons_head e) refl
sign_kind Star b s e = kind_at b 42 6 (cons_head e) refl
sign_kind Ask b s e = kind_at b 63 6 (cons_head e) refl

mark_kind : (t : Mark) (b : ℕ) (s : List ℕ) → b ∷ s ≡ mark_byte t ∷ [] → kind b ≡ 5
unfolding kind
mark_kind Open b s e = kind_at b 40 5 (cons_head e) refl
mark_kind Close b s e = kind_at b 41 5 (cons_head e) refl
mark_kind OpenList b s e = kind_at b 91 5 (cons_head e) refl
mark_kind CloseList b s e = kind_at b 93 5 (cons_head e) refl
mark_kind Comma b s e = kind_at b 44 5 (cons_head e) refl
mark_kind Bar b s e = kind_at b 124 5 (cons_head e) refl

kind_spelled : (b : ℕ) (s : List ℕ) (l : Lexeme) → SpellsToken (b ∷ s) l → kind b ≡ kind_of l
unfolding kind
kind_spelled b s (Word w) k = ap (λ t. if t then 1 else (if is_variable_start b then 2 else (if is_ascii_digit b then 3 else (if b == 39 then 4 else (if is_mark b then 5 else 6))))) k.1.0
kind_spelled b s (Variable w) k =
    ap (λ t. if t then 1 else (if is_variable_start b then 2 else (if is_ascii_digit b then 3 else (if b == 39 then 4 else (if is_mark b then 5 else 6))))) (start_not_lower b k.1.0)
    ∙ ap (λ t. if t then 2 else (if is_ascii_digit b then 3 else (if b == 39 then 4 else (if is_mark b then 5 else 6)))) k.1.0
kind_spelled b s (Number n) k =
    ap (λ t. if t then 1 else (if is_variable_start b then 2 else (if is_ascii_digit b then 3 else (if b == 39 then 4 else (if is_mark b then 5 else 6))))) (digit_not_lower b k.1.0)
    ∙ ap (λ t. if t then 2 else (if is_ascii_digit b then 3 else (if b == 39 then 4 else (if is_mark b then 5 else 6)))) (digit_not_start b k.1.0)
    ∙ ap (λ t. if t then 3 else (if b == 39 then 4 else (if is_mark b then 5 else 6))) k.1.0
kind_spelled b s (Quoted m) k = kind_at b 39 4 k.0 refl
kind_spelled b s (Symbol t) k = sign_kind t b s k
kind_spelled b s (Punctuation t) k = mark_kind t b s k

sign_back : (t : Sign) → sign_of (sign_bytes t) ≡ Some t
sign_back EqColonEq = refl
sign_back EqBackEq = refl
sign_back EqLess = refl
sign_back GreaterEq = refl
sign_back BackEq = refl
sign_back SlashSlash = refl
sign_back Equal = refl
sign_back Less = refl
sign_back Greater = refl
sign_back Plus = refl
sign_back Minus = refl
sign_back Star = refl
sign_back Ask = refl

abbrev mark_of : ℕ → Option Mark
mark_of b = if b == 40 then Some Open else (if b == 41 then Some Close else (if b == 91 then Some OpenList else (if b == 93 then Some CloseList else (if b == 44 then Some Comma else (if b == 124 then Some Bar else None)))))

mark_back : (t : Mark) → mark_of (mark_byte t) ≡ Some t
mark_back Open = refl
mark_back Close = refl
mark_back OpenList = refl
mark_back CloseList = refl
mark_back Comma = refl
mark_back Bar = refl

inside_same : (s m n : List ℕ) → Inside s m → Inside s n → m ≡ n
inside_same s m n x y =
    let f = between x in
    let g = between y in
    let e : f.raw ++ 39 ∷ [] ≡ g.raw ++ 39 ∷ [] = sym f.closes ∙ g.closes in
    let l : length f.raw ≡ length g.raw = omega (arith, ap length e, length-append f.raw (39 ∷ []), length-append g.raw (39 ∷ [])) in
    f.means ∙ ap unquoted (append_parts f.raw g.raw (39 ∷ []) (39 ∷ []) e l).0 ∙ sym g.means

symbol_same : (t u : Sign) → sign_bytes t ≡ sign_bytes u → t ≡ u
symbol_same t u e = let same : Some t ≡ Some u = sym (sign_back t) ∙ ap sign_of e ∙ sign_back u in cc

mark_same : (t u : Mark) → mark_byte t ≡ mark_byte u → t ≡ u
mark_same t u e = let same : Some t ≡ Some u = sym (mark_back t) ∙ ap mark_of e ∙ mark_back u in cc

same_kind : (b : ℕ) (s : List ℕ) (l k : Lexeme) → SpellsToken (b ∷ s) l → SpellsToken (b ∷ s) k → kind_of l ≡ kind_of k → l ≡ k
same_kind b s (Word w) (Word v) x y e = ap Word (sym x.0 ∙ y.0)
same_kind b s (Variable w) (Variable v) x y e = ap Variable (sym x.0 ∙ y.0)
same_kind b s (Number m) (Number n) x y e = ap Number (x.0 ∙ sym y.0)
same_kind b s (Quoted m) (Quoted n) x y e = ap Quoted (inside_same s m n x.1 y.1)
same_kind b s (Symbol t) (Symbol u) x y e = ap Symbol (symbol_same t u (sym x ∙ y))
same_kind b s (Punctuation t) (Punctuation u) x y e = ap Punctuation (mark_same t u (cons_head (sym x ∙ y)))
same_kind b s l k x y e = absurd (omega arith)

pub lexeme_same : (s : List ℕ) (l k : Lexeme) → SpellsToken s l → SpellsToken s k → l ≡ k
lexeme_same [] l k x y = absurd (empty_spells l x)
lexeme_same (b ∷ s) l k x y = same_kind b s l k x y (sym (kind_spelled b s l x) ∙ kind_spelled b s k y)

pub longest_same : (text s t x y : List ℕ) (l k : Lexeme) → Longest text s l x → Longest text t k y → (l ≡ k) × (x ≡ y)
longest_same text s t x y l k f g =
    let n : length s ≡ length t = omega (arith, f.longest t y k g.split g.spelled, g.longest s x l f.split f.spelled) in
    let r = append_parts s t x y (sym f.split ∙ g.split) n in
    (lexeme_same t l k (subst (λ z. SpellsToken z l) r.0 f.spelled) g.spelled, r.1)

-- the end token begins no other one
pub dot_begins_none : (after : List ℕ) → BeginsNone (46 ∷ after)
dot_begins_none after = none_sign 46 after refl (λ e. absurd (omega arith)) refl refl
