-- The tokens of a text.
use Rattle.std.specs.Prelude.{◌≡◌, ◌≢◌, ℕ, ◌+◌, ◌-◌, ◌*◌, ◌≤◌, Bool, true, if◌then◌else◌}
use Rattle.std.specs.Prelude.{◌==◌, List, [], ◌∷◌, ◌++◌, length, Option, Some, None, codes}
use Rattle.std.specs.Char.{is_ascii_digit}
use Rattle.std.specs.List.{AllByRecursion}
use Rattle.tc_term.specs.Bytes.{is_word, is_name_start, is_variable_start}

-- the symbols, longer ones first
pub data Sign : Type 0 where
  EqColonEq EqBackEq EqLess GreaterEq BackEq SlashSlash : Sign
  Equal Less Greater Plus Minus Star Ask : Sign

-- the bytes of a symbol
abbrev pub sign_bytes : Sign → List ℕ
sign_bytes EqColonEq = codes "=:="
sign_bytes EqBackEq = codes "=\\="
sign_bytes EqLess = codes "=<"
sign_bytes GreaterEq = codes ">="
sign_bytes BackEq = codes "\\="
sign_bytes SlashSlash = codes "//"
sign_bytes Equal = codes "="
sign_bytes Less = codes "<"
sign_bytes Greater = codes ">"
sign_bytes Plus = codes "+"
sign_bytes Minus = codes "-"
sign_bytes Star = codes "*"
sign_bytes Ask = codes "?"

-- punctuation
pub data Mark : Type 0 where
  Open Close OpenList CloseList Comma Bar : Mark

-- the byte of a punctuation mark
abbrev pub mark_byte : Mark → ℕ
mark_byte Open = 40
mark_byte Close = 41
mark_byte OpenList = 91
mark_byte CloseList = 93
mark_byte Comma = 44
mark_byte Bar = 124

-- a token: a name, a variable, an integer, a quoted name with the bytes that it stands for, a
-- symbol or a mark
pub data Lexeme : Type 0 where
  Word : List ℕ → Lexeme
  Variable : List ℕ → Lexeme
  Number : ℕ → Lexeme
  Quoted : List ℕ → Lexeme
  Symbol : Sign → Lexeme
  Punctuation : Mark → Lexeme

-- what stands behind a backslash in quotes, and the byte that both stand for
abbrev pub escape : ℕ → Option ℕ
escape b = if b == 39 then Some 39
    else (if b == 92 then Some 92
    else (if b == 110 then Some 10 else (if b == 116 then Some 9 else None)))

-- Inside s m: the bytes s, behind an opening quote, up to and with the closing one, stand for the
-- bytes m.
pub data Inside : List ℕ → List ℕ → Type 0 where
  closed : Inside (39 ∷ []) []
  doubled : {s m : List ℕ} → Inside s m → Inside (39 ∷ 39 ∷ s) (39 ∷ m)
  escaped : {b c : ℕ} {s m : List ℕ} → escape b ≡ Some c → Inside s m
      → Inside (92 ∷ b ∷ s) (c ∷ m)
  plain : {b : ℕ} {s m : List ℕ} → 32 ≤ b → b ≢ 39 → b ≢ 92 → Inside s m
      → Inside (b ∷ s) (b ∷ m)

-- a first byte of one kind, and word bytes behind it
abbrev pub IsWordFrom : (ℕ → Bool) → List ℕ → Type 0
IsWordFrom first [] = ⊥
IsWordFrom first (b ∷ s) = (first b ≡ true) × AllByRecursion (λ c. is_word c ≡ true) s

-- one digit or more
abbrev pub IsDigits : List ℕ → Type 0
IsDigits [] = ⊥
IsDigits (b ∷ s) =
    (is_ascii_digit b ≡ true) × AllByRecursion (λ c. is_ascii_digit c ≡ true) s

-- the number that the digits go on to from n
abbrev pub decimal_from : ℕ → List ℕ → ℕ
decimal_from n [] = n
decimal_from n (b ∷ bs) = decimal_from (10 * n + (b - 48)) bs

-- the bytes s are a quoted token that stands for the bytes m
abbrev pub IsQuoted : List ℕ → List ℕ → Type 0
IsQuoted [] m = ⊥
IsQuoted (b ∷ s) m = (b ≡ 39) × Inside s m

-- the bytes s have the form of the token
abbrev pub SpellsToken : List ℕ → Lexeme → Type 0
SpellsToken s (Word w) = (s ≡ w) × IsWordFrom is_name_start s
SpellsToken s (Variable w) = (s ≡ w) × IsWordFrom is_variable_start s
SpellsToken s (Number n) = (n ≡ decimal_from 0 s) × IsDigits s
SpellsToken s (Quoted m) = IsQuoted s m
SpellsToken s (Symbol t) = s ≡ sign_bytes t
SpellsToken s (Punctuation t) = s ≡ mark_byte t ∷ []

-- the longest token at the front of the text
pub record Longest (text s : List ℕ) (lexeme : Lexeme) (rest : List ℕ) : Type 0 where
  pub split : text ≡ s ++ rest
  pub spelled : SpellsToken s lexeme
  pub longest : (s' rest' : List ℕ) (lexeme' : Lexeme)
      → text ≡ s' ++ rest' → SpellsToken s' lexeme' → length s' ≤ length s

-- the text begins with no token
abbrev pub BeginsNone : List ℕ → Type 0
BeginsNone text = (s rest : List ℕ) (lexeme : Lexeme)
    → text ≡ s ++ rest → SpellsToken s lexeme → ⊥
