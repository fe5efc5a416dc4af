-- Where tokens of a kind end, as the scanner finds it.
use Rattle.std.specs.Prelude.{ℕ, ◌+◌, Bool, false, if◌then◌else◌, ◌&&◌, ◌||◌}
use Rattle.std.specs.Prelude.{◌==◌}
use Rattle.std.specs.Prelude.{nat_le, List, [], ◌∷◌, Option, Some, None, is_some}
use Rattle.tc_term.specs.Tokens.{Sign, EqColonEq, EqBackEq, EqLess, GreaterEq}
use Rattle.tc_term.specs.Tokens.{BackEq, SlashSlash, Equal, Less, Greater, Plus}
use Rattle.tc_term.specs.Tokens.{Minus, Star, Ask, Lexeme, Longest, escape}

-- the byte of punctuation
abbrev pub is_mark : ℕ → Bool
is_mark b = b == 40 || b == 41 || b == 91 || b == 93 || b == 44 || b == 124

-- the bytes begin with this byte
abbrev pub leads_with : ℕ → List ℕ → Bool
leads_with c [] = false
leads_with c (b ∷ s) = b == c

abbrev pub after_one : List ℕ → List ℕ
after_one [] = []
after_one (b ∷ s) = s

-- the symbol behind the byte =
abbrev pub equal_sign : List ℕ → Sign
equal_sign s =
    if leads_with 58 s && leads_with 61 (after_one s) then EqColonEq else
    (if leads_with 92 s && leads_with 61 (after_one s) then EqBackEq else
    (if leads_with 60 s then EqLess else Equal))

abbrev pub greater_sign : List ℕ → Sign
greater_sign s = if leads_with 61 s then GreaterEq else Greater

abbrev pub back_sign : List ℕ → Option Sign
back_sign s = if leads_with 61 s then Some BackEq else None

abbrev pub slash_sign : List ℕ → Option Sign
slash_sign s = if leads_with 47 s then Some SlashSlash else None

-- the longest symbol that begins with this byte
abbrev pub sign_at : ℕ → List ℕ → Option Sign
sign_at b s =
    if b == 61 then Some (equal_sign s) else
    (if b == 62 then Some (greater_sign s) else
    (if b == 92 then back_sign s else
    (if b == 47 then slash_sign s else
    (if b == 60 then Some Less else
    (if b == 43 then Some Plus else
    (if b == 45 then Some Minus else
    (if b == 42 then Some Star else
    (if b == 63 then Some Ask else None))))))))

-- behind a first part of this many bytes
abbrev pub further : ℕ → Option ℕ → Option ℕ
further k None = None
further k (Some n) = Some (k + n)

-- behind a first quote of two: the later end, or the first quote
abbrev pub or_one : Option ℕ → Option ℕ
or_one None = Some 1
or_one (Some n) = Some (2 + n)

-- how many bytes the longest inside of a quoted token has, with its closing quote
abbrev mutual
  pub quoted_end : List ℕ → Option ℕ
  quoted_end [] = None
  quoted_end (b ∷ s) = if b == 39 then at_quote s else
      (if b == 92 then at_backslash s else (if nat_le 32 b then further 1 (quoted_end s) else None))

  pub at_quote : List ℕ → Option ℕ
  at_quote [] = Some 1
  at_quote (b ∷ s) = if b == 39 then or_one (quoted_end s) else Some 1

  pub at_backslash : List ℕ → Option ℕ
  at_backslash [] = None
  at_backslash (b ∷ s) = if is_some (escape b) then further 2 (quoted_end s) else None

-- the text begins with this token, the longest there is, and the rest stands behind it
abbrev pub Begins : List ℕ → Lexeme → List ℕ → Type 0
Begins text lexeme rest = (s : List ℕ) × Longest text s lexeme rest
