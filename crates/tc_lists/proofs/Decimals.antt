-- Decimal numbers at the front of a text: what is spelled is read again, and what is read is spelled so.
use Rattle.std.proofs.Common.{◌≡◌, ◌≢◌, ◌⊎◌, ℕ, zero, suc, ◌+◌, ◌-◌, ◌*◌, ◌/◌, ◌%◌, ◌^◌, ◌<◌, ◌≤◌, true, false, ◌&&◌, nat_le, eqb, ℤ, pos, negsuc, List, [], ◌∷◌, ◌++◌, length, take, get_or, FitsSigned, Option, Some, None, option_map, option_and_then, sym, ap, ◌∙◌, refl, MatchOption, true≢false, eq-zero-or-pos, subst, ap₂, ⊎_elim, length-append, append_assoc, arith}
use Rattle.std.specs.Char.{is_ascii_digit, digit_value}
use Rattle.std.specs.Int.{IsInRange}
use Rattle.std.specs.Fmt.{decimal, signed_decimal}
use Rattle.std.specs.Str.Parse.{digits_value}
use Rattle.std.proofs.Math.Seq.{take-append_seam, get_or-append_seam}
use Rattle.std.proofs.Math.ListN.{get_or-append}
use Rattle.std.proofs.lemmas.List.{take-append-le}
use Rattle.std.proofs.lemmas.Bool.Decides.{eqb_tells}
use Rattle.std.proofs.lemmas.Bool.{cases_lt, cases_Bool}
use Rattle.std.proofs.lemmas.Int.Digits.{digits_value_more}
use Rattle.std.proofs.lemmas.Str.{digit_value_digit}
use Rattle.std.proofs.lemmas.Str.Parse.{digit_at, digits_value-take-le}
use Rattle.std.proofs.lemmas.Fmt.{decimal_is_IsNumeral, decimal_digit, decimal_step, first_decimal, decimal_injective}
use Rattle.tc_lists.proofs.Prefixes.{append-same}
use mir.Syntax.{w64}
use Rattle.tc_lists.specs.Decimals.{IsNumberAt, IsLongestNumberAt, IsIntegerAt, IsLongestIntegerAt, StartsWithNoDigit, more_digits, number_at, negative, positive, integer_at}

digit_tested : (c : ℕ) → IsInRange 48 57 c → is_ascii_digit c ≡ true
digit_tested c within = grind arith

tested_digit : (c : ℕ) → is_ascii_digit c ≡ true → IsInRange 48 57 c
tested_digit c test = grind arith

-- where a longer text of a number begins with a number's text, the byte behind it is a digit of the longer one
decimal-longer : (n y b : ℕ) (bs more : List ℕ) → n < 2 ^ 64 → y < 2 ^ 64 → decimal n ++ b ∷ bs ≡ decimal y ++ more → length more ≤ length bs → (is_ascii_digit b ≡ true) × (n * 10 + (b - 48) ≤ y)
decimal-longer n y b bs more small large same shorter =
    let xs : List ℕ = decimal n in
    let ys : List ℕ = decimal y in
    let k : ℕ = length xs in
    let of_n = decimal_is_IsNumeral n small in
    let of_y = decimal_is_IsNumeral y large in
    let sum : length xs + suc (length bs) ≡ length ys + length more = simp length-append at (ap length same) in
    let inside : k < length ys = omega arith in
    let byte : get_or ys k 0 ≡ b =
    sym (get_or-append ys more 0 k inside) ∙ ap (λ (l : List ℕ). get_or l k 0) (sym same) ∙ get_or-append_seam xs b bs 0 in
    let front : take k ys ≡ xs =
    sym (take-append-le k ys more (omega arith)) ∙ ap (λ (l : List ℕ). take k l) (sym same) ∙ take-append_seam xs (b ∷ bs) in
    let digit : IsInRange 48 57 b = subst (λ (c : ℕ). IsInRange 48 57 c) byte (digit_at ys k of_y.0.1 inside) in
    let value : digit_value b + 48 ≡ b = digit_value_digit b digit in
    let longer : digits_value 10 (take (k + 1) ys) ≡ digits_value 10 xs * 10 + digit_value b =
    digits_value_more 10 ys k inside ∙ ap₂ (λ (l : List ℕ) (c : ℕ). digits_value 10 l * 10 + digit_value c) front byte in
    let least : digits_value 10 (take (k + 1) ys) ≤ digits_value 10 ys = digits_value-take-le 10 ys (k + 1) (omega arith) in
    (digit_tested b digit, omega (arith, of_n.1, of_y.1))

-- the digits of the larger number
decimal-more : (n d : ℕ) → 0 < n → d < 10 → n * 10 + d < 2 ^ 64 → decimal (n * 10 + d) ≡ decimal n ++ (48 + d) ∷ []
decimal-more n d some digit small =
    let front : (n * 10 + d) / 10 ≡ n = omega arith in
    let last : (n * 10 + d) % 10 ≡ d = omega arith in
    decimal_step (n * 10 + d) (omega arith) small ∙ ap₂ (λ (m c : ℕ). decimal m ++ (48 + c) ∷ []) front last

-- one digit more is either read, or stops the number
raise_or_stop : (limit n b : ℕ) → (((is_ascii_digit b && nat_le (n * 10 + (b - 48)) limit) ≡ true) × IsInRange 48 57 b × (n * 10 + (b - 48) ≤ limit))
    ⊎ (((is_ascii_digit b && nat_le (n * 10 + (b - 48)) limit) ≡ false) × ((is_ascii_digit b ≡ true) → n * 10 + (b - 48) ≤ limit → ⊥))
raise_or_stop limit n b = grind arith

-- what is read of a number behind n: it is spelled so
record IsTaken (limit n : ℕ) (bs : List ℕ) (r : ℕ × List ℕ) : Type 0 where
  within : r.0 ≤ limit
  some : 0 < r.0
  text : decimal n ++ bs ≡ decimal r.0 ++ r.1

more_digits-takes : (limit n : ℕ) (bs : List ℕ) → limit < 2 ^ 64 → 0 < n → n ≤ limit → IsTaken limit n bs (more_digits limit n bs)
more_digits-takes limit n [] small some within = record { within = within; some = some; text = refl }
more_digits-takes limit n (b ∷ bs) small some within =
    ⊎_elim
    (λ (raised : ((is_ascii_digit b && nat_le (n * 10 + (b - 48)) limit) ≡ true) × IsInRange 48 57 b × (n * 10 + (b - 48) ≤ limit)).
    let m : ℕ = n * 10 + (b - 48) in
    let taken : IsTaken limit m bs (more_digits limit m bs) = more_digits-takes limit m bs small (omega arith) raised.2 in
    let byte : 48 + (b - 48) ≡ b = omega arith in
    let spelled : decimal m ≡ decimal n ++ b ∷ [] = decimal-more n (b - 48) some (omega arith) (omega arith) ∙ ap (λ (c : ℕ). decimal n ++ c ∷ []) byte in
    let same : decimal n ++ b ∷ bs ≡ decimal m ++ bs = sym (ap (λ (l : List ℕ). l ++ bs) spelled ∙ append_assoc (decimal n) (b ∷ []) bs) in
    rw raised.0 (record { within = taken.within; some = taken.some; text = same ∙ taken.text }))
    (λ (stopped : ((is_ascii_digit b && nat_le (n * 10 + (b - 48)) limit) ≡ false) × ((is_ascii_digit b ≡ true) → n * 10 + (b - 48) ≤ limit → ⊥)).
    rw stopped.0 (record { within = within; some = some; text = refl }))
    (raise_or_stop limit n b)

more_digits-longest : (limit n : ℕ) (bs : List ℕ) → limit < 2 ^ 64 → 0 < n → n ≤ limit → (y : ℕ) (more : List ℕ) → y ≤ limit → decimal n ++ bs ≡ decimal y ++ more → length (more_digits limit n bs).1 ≤ length more
more_digits-longest limit n [] small some within y more large same = omega arith
more_digits-longest limit n (b ∷ bs) small some within y more large same =
    ⊎_elim
    (λ (raised : ((is_ascii_digit b && nat_le (n * 10 + (b - 48)) limit) ≡ true) × IsInRange 48 57 b × (n * 10 + (b - 48) ≤ limit)).
    let m : ℕ = n * 10 + (b - 48) in
    let byte : 48 + (b - 48) ≡ b = omega arith in
    let spelled : decimal m ≡ decimal n ++ b ∷ [] = decimal-more n (b - 48) some (omega arith) (omega arith) ∙ ap (λ (c : ℕ). decimal n ++ c ∷ []) byte in
    let again : decimal m ++ bs ≡ decimal n ++ b ∷ bs = ap (λ (l : List ℕ). l ++ bs) spelled ∙ append_assoc (decimal n) (b ∷ []) bs in
    rw raised.0 (more_digits-longest limit m bs small (omega arith) raised.2 y more large (again ∙ same)))
    (λ (stopped : ((is_ascii_digit b && nat_le (n * 10 + (b - 48)) limit) ≡ false) × ((is_ascii_digit b ≡ true) → n * 10 + (b - 48) ≤ limit → ⊥)).
    rw stopped.0
    (⊎_elim
    (λ (shorter : length more < length (b ∷ bs)).
    let longer = decimal-longer n y b bs more (omega arith) (omega arith) same (omega arith) in
    absurd (stopped.1 longer.0 (omega (arith, longer.1))))
    (λ (past : length (b ∷ bs) ≤ length more). past)
    (cases_lt (length more) (length (b ∷ bs)))))
    (raise_or_stop limit n b)

-- a number's text begins with a digit, and with no zero unless it is zero
pub record IsFirstDigit (n b : ℕ) : Type 0 where
  pub digit : is_ascii_digit b ≡ true
  pub zero_alone : b ≡ 48 → n ≡ 0

pub decimal-first : (n b : ℕ) (bs more : List ℕ) → n < 2 ^ 64 → b ∷ bs ≡ decimal n ++ more → IsFirstDigit n b
decimal-first n b bs more small text =
    let of_n = decimal_is_IsNumeral n small in
    let first : get_or (decimal n) 0 0 ≡ b = sym (get_or-append (decimal n) more 0 0 of_n.0.0) ∙ ap (λ (l : List ℕ). get_or l 0 0) (sym text) in
    let digit : IsInRange 48 57 b = subst (λ (c : ℕ). IsInRange 48 57 c) first (digit_at (decimal n) 0 of_n.0.1 of_n.0.0) in
    record {
      digit = digit_tested b digit;
      zero_alone =
          λ (zero_digit : b ≡ 48).
          ⊎_elim
          (λ (none : n ≡ 0). none)
          (λ (some : 0 < n). absurd (omega (arith, first_decimal n some small)))
          (eq-zero-or-pos n);
    }

pub decimal-not_nil : (n : ℕ) (more : List ℕ) → n < 2 ^ 64 → [] ≡ decimal n ++ more → ⊥
decimal-not_nil n more small text =
    let of_n = decimal_is_IsNumeral n small in
    omega (arith, of_n.0.0, length-append (decimal n) more, ap length text)

-- what is read at the front of the bytes is the longest number there, and nothing is read only where none stands
abbrev pub IsNumberRead : ℕ → List ℕ → Option (ℕ × List ℕ) → Type 0
IsNumberRead limit bytes read = MatchOption read ((m : ℕ) (more : List ℕ) → IsNumberAt limit bytes m more → ⊥) (λ r. IsLongestNumberAt limit bytes r.0 r.1)

at_zero : (limit b : ℕ) (bs : List ℕ) → limit < 2 ^ 64 → b ≡ 48 → IsLongestNumberAt limit (b ∷ bs) 0 bs
at_zero limit b bs small zero_digit = record {
  stands = record { within = omega arith; text = ap (λ (c : ℕ). c ∷ bs) zero_digit ∙ ap (λ (l : List ℕ). l ++ bs) (sym (decimal_digit 0 (omega arith))) };
  longest = λ m more other.
      let first = decimal-first m b bs more (omega (arith, other.within)) other.text in
      let none : m ≡ 0 = first.zero_alone zero_digit in
      let text : decimal m ≡ 48 ∷ [] = ap decimal none ∙ decimal_digit 0 (omega arith) in
      omega (arith, length-append (decimal m) more, ap length text, ap length other.text);
}

at_digit : (limit b : ℕ) (bs : List ℕ) → limit < 2 ^ 64 → 9 ≤ limit → is_ascii_digit b ≡ true → b ≢ 48 → IsLongestNumberAt limit (b ∷ bs) (more_digits limit (b - 48) bs).0 (more_digits limit (b - 48) bs).1
at_digit limit b bs small large digit other_digit =
    let inside : IsInRange 48 57 b = tested_digit b digit in
    let some : 0 < b - 48 = omega arith in
    let byte : 48 + (b - 48) ≡ b = omega arith in
    let text : decimal (b - 48) ≡ b ∷ [] = decimal_digit (b - 48) (omega arith) ∙ ap (λ (c : ℕ). c ∷ []) byte in
    let same : b ∷ bs ≡ decimal (b - 48) ++ bs = sym (ap (λ (l : List ℕ). l ++ bs) text) in
    let taken : IsTaken limit (b - 48) bs (more_digits limit (b - 48) bs) = more_digits-takes limit (b - 48) bs small some (omega arith) in
    record {
      stands = record { within = taken.within; text = same ∙ taken.text };
      longest = λ m more other. more_digits-longest limit (b - 48) bs small some (omega arith) m more other.within (sym same ∙ other.text);
    }

pub number_at-read : (limit : ℕ) (bytes : List ℕ) → 9 ≤ limit → limit < 2 ^ 64 → IsNumberRead limit bytes (number_at limit bytes)
number_at-read limit [] large small = λ m more other. decimal-not_nil m more (omega (arith, other.within)) other.text
number_at-read limit (b ∷ bs) large small =
    ⊎_elim
    (λ (same : (eqb b 48 ≡ true) × (b ≡ 48)). rw same.0 (at_zero limit b bs small same.1))
    (λ (other : (eqb b 48 ≡ false) × (b ≢ 48)).
    ⊎_elim
    (λ (digit : is_ascii_digit b ≡ true). rw (other.0, digit) (at_digit limit b bs small large digit other.1))
    (λ (none : is_ascii_digit b ≡ false).
    rw (other.0, none)
    (λ m more stands. let first = decimal-first m b bs more (omega (arith, stands.within)) stands.text in true≢false (sym first.digit ∙ none)))
    (cases_Bool (is_ascii_digit b)))
    (eqb_tells b 48)

-- what is read at the front of the bytes is the longest whole number there, and nothing is read only where none stands
abbrev pub IsIntegerRead : List ℕ → Option (ℤ × List ℕ) → Type 0
IsIntegerRead bytes read = MatchOption read ((z : ℤ) (more : List ℕ) → IsIntegerAt bytes z more → ⊥) (λ r. IsLongestIntegerAt bytes r.0 r.1)

-- the text of a number without a minus begins with no minus
decimal-no_minus : (n : ℕ) (bs more : List ℕ) → n < 2 ^ 64 → 45 ∷ bs ≡ decimal n ++ more → ⊥
decimal-no_minus n bs more small text = let first = decimal-first n 45 bs more small text in true≢false (sym first.digit)

-- behind a minus stands a number that isn't zero
behind_minus : (bs : List ℕ) (z : ℤ) (more : List ℕ) → IsIntegerAt (45 ∷ bs) z more → (n : ℕ) × (z ≡ negsuc n) × IsNumberAt (2 ^ 63) bs (suc n) more
behind_minus bs (pos n) more stands = let fits = stands.fits.sfits in absurd (decimal-no_minus n bs more (omega arith) stands.text)
behind_minus bs (negsuc n) more stands =
    let fits = stands.fits.sfits in
    let text : 45 ∷ bs ≡ 45 ∷ (decimal (suc n) ++ more) = stands.text in
    (n, refl, record { within = omega arith; text = cc })

-- without a minus stands a number that isn't negative
behind_no_minus : (b : ℕ) (bs : List ℕ) (z : ℤ) (more : List ℕ) → b ≢ 45 → IsIntegerAt (b ∷ bs) z more → (n : ℕ) × (z ≡ pos n) × IsNumberAt (2 ^ 63 - 1) (b ∷ bs) n more
behind_no_minus b bs (pos n) more other stands = let fits = stands.fits.sfits in (n, refl, record { within = omega arith; text = stands.text })
behind_no_minus b bs (negsuc n) more other stands =
    let text : b ∷ bs ≡ 45 ∷ (decimal (suc n) ++ more) = stands.text in
    absurd (other (cc))

at_minus : (bs : List ℕ) (read : Option (ℕ × List ℕ)) → IsNumberRead (2 ^ 63) bs read → IsIntegerRead (45 ∷ bs) (option_and_then negative read)
at_minus bs None none = λ z more stands. let (n, same, there) = behind_minus bs z more stands in none (suc n) more there
at_minus bs (Some (zero, rest)) longest = λ z more stands.
    let (n, same, there) = behind_minus bs z more stands in
    let text : decimal (suc n) ++ more ≡ 48 ∷ rest = sym there.text ∙ longest.stands.text ∙ ap (λ (l : List ℕ). l ++ rest) (decimal_digit 0 (omega arith)) in
    let first = decimal-first (suc n) 48 rest more (omega (arith, there.within)) (sym text) in
    let none : suc n ≡ 0 = first.zero_alone refl in
    omega arith
at_minus bs (Some (suc n, rest)) longest =
    let stands = longest.stands in
    let within : suc n ≤ 2 ^ 63 = stands.within in
    record {
      stands = record { fits = record { sfits = omega arith }; text = ap (λ (l : List ℕ). 45 ∷ l) stands.text };
      longest = λ z more other. let (m, same, there) = behind_minus bs z more other in longest.longest (suc m) more there;
    }

at_no_minus : (b : ℕ) (bs : List ℕ) (read : Option (ℕ × List ℕ)) → b ≢ 45 → IsNumberRead (2 ^ 63 - 1) (b ∷ bs) read → IsIntegerRead (b ∷ bs) (option_map positive read)
at_no_minus b bs None other none = λ z more stands. let (n, same, there) = behind_no_minus b bs z more other stands in none n more there
at_no_minus b bs (Some (n, rest)) other longest =
    let stands = longest.stands in
    let within : n ≤ 2 ^ 63 - 1 = stands.within in
    record {
      stands = record { fits = record { sfits = omega arith }; text = stands.text };
      longest = λ z more there. let (m, same, number) = behind_no_minus b bs z more other there in longest.longest m more number;
    }

pub integer_at-read : (bytes : List ℕ) → IsIntegerRead bytes (integer_at bytes)
integer_at-read [] = none_of_nil
  where
    none_of_nil : (z : ℤ) (more : List ℕ) → IsIntegerAt [] z more → ⊥
    none_of_nil (pos n) more stands = let fits = stands.fits.sfits in decimal-not_nil n more (omega arith) stands.text
    none_of_nil (negsuc n) more stands = let text : [] ≡ 45 ∷ (decimal (suc n) ++ more) = stands.text in absurd (cc)
integer_at-read (b ∷ bs) =
    ⊎_elim
    (λ (minus : (eqb b 45 ≡ true) × (b ≡ 45)).
    rw (minus.0, minus.1) (at_minus bs (number_at (2 ^ 63) bs) (number_at-read (2 ^ 63) bs (omega arith) (omega arith))))
    (λ (other : (eqb b 45 ≡ false) × (b ≢ 45)).
    rw other.0 (at_no_minus b bs (number_at (2 ^ 63 - 1) (b ∷ bs)) other.1 (number_at-read (2 ^ 63 - 1) (b ∷ bs) (omega arith) (omega arith))))
    (eqb_tells b 45)

-- before a byte that is no digit one number at most stands at the front
number_same : (n m : ℕ) (rest more : List ℕ) → n < 2 ^ 64 → m < 2 ^ 64 → decimal n ++ rest ≡ decimal m ++ more → length more ≤ length rest → StartsWithNoDigit rest → (n ≡ m) × (rest ≡ more)
number_same n m [] more small large same shorter stops =
    let parts = append-same (decimal n) (decimal m) [] more same (omega arith) in
    (decimal_injective n m small large parts.0, parts.1)
number_same n m (c ∷ cs) more small large same shorter stops =
    ⊎_elim
    (λ (below : length more < length (c ∷ cs)).
    let longer = decimal-longer n m c cs more small large same (omega arith) in
    absurd (true≢false (sym longer.0 ∙ stops)))
    (λ (past : length (c ∷ cs) ≤ length more).
    let parts = append-same (decimal n) (decimal m) (c ∷ cs) more same (omega arith) in
    (decimal_injective n m small large parts.0, parts.1))
    (cases_lt (length more) (length (c ∷ cs)))

number_read-is : (limit n : ℕ) (rest : List ℕ) → limit < 2 ^ 64 → n ≤ limit → StartsWithNoDigit rest → (read : Option (ℕ × List ℕ)) → IsNumberRead limit (decimal n ++ rest) read → read ≡ Some (n, rest)
number_read-is limit n rest small within stops None none = absurd (none n rest (record { within = within; text = refl }))
number_read-is limit n rest small within stops (Some (m, more)) longest =
    let stands = longest.stands in
    let shorter = longest.longest n rest (record { within = within; text = refl }) in
    let large : m ≤ limit = stands.within in
    let same = number_same n m rest more (omega arith) (omega arith) stands.text shorter stops in
    ap₂ (λ (k : ℕ) (l : List ℕ). Some (k, l)) (sym same.0) (sym same.1)

-- what is spelled is read again, before a byte that is no digit
pub number_at-again : (limit n : ℕ) (rest : List ℕ) → 9 ≤ limit → limit < 2 ^ 64 → n ≤ limit → StartsWithNoDigit rest → number_at limit (decimal n ++ rest) ≡ Some (n, rest)
number_at-again limit n rest large small within stops =
    number_read-is limit n rest small within stops (number_at limit (decimal n ++ rest)) (number_at-read limit (decimal n ++ rest) large small)

-- what is read is spelled so
pub number_at-takes : (limit : ℕ) (bytes : List ℕ) (n : ℕ) (rest : List ℕ) → 9 ≤ limit → limit < 2 ^ 64 → number_at limit bytes ≡ Some (n, rest) → IsNumberAt limit bytes n rest
number_at-takes limit bytes n rest large small e =
    let longest : IsNumberRead limit bytes (Some (n, rest)) = subst (λ (read : Option (ℕ × List ℕ)). IsNumberRead limit bytes read) e (number_at-read limit bytes large small) in
    longest.stands

integer_read-is : (z : ℤ) (rest : List ℕ) → FitsSigned w64 z → StartsWithNoDigit rest → (read : Option (ℤ × List ℕ)) → IsIntegerRead (signed_decimal z ++ rest) read → read ≡ Some (z, rest)
integer_read-is z rest fits stops None none = absurd (none z rest (record { fits = fits; text = refl }))
integer_read-is (pos n) rest fits stops (Some (pos m, more)) longest =
    let small = fits.sfits in
    let large = longest.stands.fits.sfits in
    let shorter = longest.longest (pos n) rest (record { fits = fits; text = refl }) in
    let same = number_same n m rest more (omega arith) (omega arith) longest.stands.text shorter stops in
    ap₂ (λ (k : ℕ) (l : List ℕ). Some (pos k, l)) (sym same.0) (sym same.1)
integer_read-is (negsuc n) rest fits stops (Some (negsuc m, more)) longest =
    let small = fits.sfits in
    let large = longest.stands.fits.sfits in
    let shorter = longest.longest (negsuc n) rest (record { fits = fits; text = refl }) in
    let text : 45 ∷ (decimal (suc n) ++ rest) ≡ 45 ∷ (decimal (suc m) ++ more) = longest.stands.text in
    let same = number_same (suc n) (suc m) rest more (omega arith) (omega arith) (cc) shorter stops in
    let number : m ≡ n = omega (arith, same.0) in
    ap₂ (λ (k : ℕ) (l : List ℕ). Some (negsuc k, l)) number (sym same.1)
integer_read-is (pos n) rest fits stops (Some (negsuc m, more)) longest =
    let small = fits.sfits in
    let text : decimal n ++ rest ≡ 45 ∷ (decimal (suc m) ++ more) = longest.stands.text in
    absurd (decimal-no_minus n (decimal (suc m) ++ more) rest (omega arith) (sym text))
integer_read-is (negsuc n) rest fits stops (Some (pos m, more)) longest =
    let large = longest.stands.fits.sfits in
    let text : 45 ∷ (decimal (suc n) ++ rest) ≡ decimal m ++ more = longest.stands.text in
    absurd (decimal-no_minus m (decimal (suc n) ++ rest) more (omega arith) text)

-- what is spelled is read again, before a byte that is no digit
pub integer_at-again : (z : ℤ) (rest : List ℕ) → FitsSigned w64 z → StartsWithNoDigit rest → integer_at (signed_decimal z ++ rest) ≡ Some (z, rest)
integer_at-again z rest fits stops = integer_read-is z rest fits stops (integer_at (signed_decimal z ++ rest)) (integer_at-read (signed_decimal z ++ rest))

-- what is read is spelled so
pub integer_at-takes : (bytes : List ℕ) (z : ℤ) (rest : List ℕ) → integer_at bytes ≡ Some (z, rest) → IsIntegerAt bytes z rest
integer_at-takes bytes z rest e =
    let longest : IsIntegerRead bytes (Some (z, rest)) = subst (λ (read : Option (ℤ × List ℕ)). IsIntegerRead bytes read) e (integer_at-read bytes) in
    longest.stands
