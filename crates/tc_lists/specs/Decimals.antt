-- Decimal numbers at the front of a text; their text is what `{}` writes.
use Rattle.std.specs.Prelude.{◌≡◌, ℕ, zero, suc, ◌+◌, ◌-◌, ◌*◌, ◌^◌}
use Rattle.std.specs.Prelude.{◌≤◌, ◌==◌, ◌&&◌}
use Rattle.std.specs.Prelude.{false, nat_le, if◌then◌else◌, ℤ, pos, negsuc, List}
use Rattle.std.specs.Prelude.{[], ◌∷◌, ◌++◌, length, FitsSigned, Some, None}
use Rattle.std.specs.Option.{option_map, option_and_then}
use Rattle.std.specs.declared.option.Option.{Option}
use Rattle.std.specs.Char.{is_ascii_digit}
use Rattle.std.specs.Fmt.{decimal, signed_decimal}
use mir.Syntax.{w64}

-- the text of this number within the limit stands at the front of the bytes, and the rest behind it
pub record IsNumberAt (limit : ℕ) (bytes : List ℕ) (n : ℕ) (rest : List ℕ) : Type 0 where
  pub within : n ≤ limit
  pub text : bytes ≡ decimal n ++ rest

-- it stands there, and no longer text of a number within the limit does
pub record IsLongestNumberAt (limit : ℕ) (bytes : List ℕ) (n : ℕ) (rest : List ℕ)
    : Type 0 where
  pub stands : IsNumberAt limit bytes n rest
  pub longest : (m : ℕ) (more : List ℕ)
      → IsNumberAt limit bytes m more → length rest ≤ length more

-- the text of this whole number of 64 bits stands at the front of the bytes, and the rest behind it
pub record IsIntegerAt (bytes : List ℕ) (z : ℤ) (rest : List ℕ) : Type 0 where
  pub fits : FitsSigned w64 z
  pub text : bytes ≡ signed_decimal z ++ rest

-- it stands there, and no longer text of a whole number does
pub record IsLongestIntegerAt (bytes : List ℕ) (z : ℤ) (rest : List ℕ) : Type 0 where
  pub stands : IsIntegerAt bytes z rest
  pub longest : (y : ℤ) (more : List ℕ)
      → IsIntegerAt bytes y more → length rest ≤ length more

-- the bytes don't begin with a digit
abbrev pub StartsWithNoDigit : List ℕ → Type 0
StartsWithNoDigit [] = Unit {0}
StartsWithNoDigit (b ∷ bs) = is_ascii_digit b ≡ false

-- the number that further digits make of n within the limit, and what stands behind them
abbrev pub more_digits : ℕ → ℕ → List ℕ → ℕ × List ℕ
more_digits limit n [] = (n, [])
more_digits limit n (b ∷ bs) =
    let longer = n * 10 + (b - 48) in
    if is_ascii_digit b && nat_le longer limit then more_digits limit longer bs else (n, b ∷ bs)

-- the number at the front of the bytes, and what stands behind it
abbrev pub number_at : ℕ → List ℕ → Option (ℕ × List ℕ)
number_at limit [] = None
number_at limit (b ∷ bs) =
    if b == 48 then Some (0, bs)
    else (if is_ascii_digit b then Some (more_digits limit (b - 48) bs) else None)

-- the number with a minus; zero has none
abbrev pub negative : ℕ × List ℕ → Option (ℤ × List ℕ)
negative (zero, rest) = None
negative (suc n, rest) = Some (negsuc n, rest)

-- the number without a minus
abbrev pub positive : ℕ × List ℕ → ℤ × List ℕ
positive (n, rest) = (pos n, rest)

-- the whole number at the front of the bytes, and what stands behind it
abbrev pub integer_at : List ℕ → Option (ℤ × List ℕ)
integer_at [] = None
integer_at (b ∷ bs) =
    if b == 45 then option_and_then negative (number_at (2 ^ 63) bs)
    else option_map positive (number_at (2 ^ 63 - 1) (b ∷ bs))
