-- The tokens that the parts of canonical text are.
use Rattle.std.proofs.Common.{◌≡◌, ◌≢◌, ◌∙◌, ◌<◌, ◌≤◌, ◌+◌, ◌-◌, ◌*◌, ◌^◌, ◌==◌, ◌||◌, ℕ, suc, Bool, true, false, cond, not, nat_lt, nat_le, if◌then◌else◌, List, [], ◌∷◌, ◌++◌, codes, length, take, drop, get_or, map, Some, None, refl, sym, ap, inl, inr, subst, append_assoc, length-append, arith}
use Rattle.tc_term.specs.Bytes.{is_word, is_name_byte}
use Rattle.std.specs.Char.{is_ascii_digit}
use Rattle.std.proofs.Math.Seq.{take-append_seam, drop-append_seam}
use Rattle.std.proofs.lemmas.Bool.Decides.{eqb_tells, nat_tests}
use Rattle.std.proofs.lemmas.Bool.{cases_lt, false_from_ne_true, ne_eqb, and_parts}
use Rattle.std.proofs.lemmas.Fmt.{decimal_is_IsNumeral, decimal_injective}
use Rattle.std.proofs.lemmas.Slice.Eq.{bytes_eq-Decides}
use Rattle.std.proofs.lemmas.List.{length-map, map-append}
use Rattle.std.proofs.lemmas.List.FromFn.{get_or-range_with_len, length-range_with_len}
use Rattle.std.proofs.lemmas.Str.{digit_value_digit}
use Rattle.std.proofs.lemmas.Str.Parse.{digit_at}
use Rattle.std.specs.Char.{digit_value, is_ascii_lowercase}
use Rattle.std.specs.Fmt.{decimal}
use Rattle.std.specs.Int.{IsInRange}
use Rattle.std.specs.List.{flat_map, list_all, position, position_or_len, prefix_len, range_with_len}
use Rattle.std.specs.Str.{bytes_eq}
use Rattle.std.specs.Str.Parse.{digits_value_after}
use Rattle.tc_term.proofs.Places.{Stands-range, place_in-range, place_in_cases}
use Rattle.tc_term.specs.Faults.{is_anonymous, known_after, known_by, learned, number_by, number_of}
use Rattle.tc_term.specs.Text.{is_name, name_text, quoted, quoted_byte}
use Rattle.tc_term.specs.Tokens.{Lexeme, Word, Number, Quoted, decimal_from}
use Rattle.tc_term.specs.Tokens as spelled
use Rattle.tc_term.specs.Variables.{place_in}
use Rattle.tc_read.proofs.Again.{NoWord, all_words}
use Rattle.tc_read.proofs.Lexemes.{begins_number, begins_variable, begins_word, no_word_no_digit}
use Rattle.tc_read.proofs.Quotes.{begins_quoted}
use Rattle.tc_read.proofs.QuotedBytes.{Form, escaped, plain, form}
use Rattle.tc_lists.proofs.Ranges.{range_with_len_more}
use Rattle.tc_read.specs.Lexing.{Begins, at_backslash, at_quote, further, or_one, quoted_end}
use Rattle.tc_read.specs.Views.{unquoted, unquoted_from}
use Rattle.tc_lists.proofs.Parts.{cons_tail}
use Rattle.tc_lists.proofs.Runs.{split-prefix_len}

-- nothing stands here that goes on a token of a term: no word byte and no quote
abbrev pub Follows : List ℕ → Type 0
Follows [] = Unit {0}
Follows (b ∷ s) = (is_word b ≡ false) × (b ≢ 39)

pub Follows-word : (rest : List ℕ) → Follows rest → NoWord rest
Follows-word [] follows = tt
Follows-word (b ∷ s) follows = follows.0

-- digits

AreDigits : List ℕ → Type 0
AreDigits ds = (k : ℕ) → k < length ds → IsInRange 48 57 (get_or ds k 0)

are_digits : (n : ℕ) → n < 2 ^ 64 → AreDigits (decimal n)
unfolding AreDigits
are_digits n small k inside = digit_at (decimal n) k (decimal_is_IsNumeral n small).0.1 inside

digit_word : (b : ℕ) → IsInRange 48 57 b → (is_word b ≡ true) × (is_ascii_digit b ≡ true)
digit_word b h = (grind (arith, nat_tests), grind (arith, nat_tests))

digits_words : (ds rest : List ℕ) → AreDigits ds → NoWord rest → (prefix_len is_word (ds ++ rest) ≡ length ds) × (prefix_len is_ascii_digit (ds ++ rest) ≡ length ds)
unfolding AreDigits
digits_words [] [] are none = (refl, refl)
digits_words [] (b ∷ s) are none = (ap (λ p. cond p (1 + prefix_len is_word s) 0) none, ap (λ p. cond p (1 + prefix_len is_ascii_digit s) 0) (no_word_no_digit b none))
digits_words (d ∷ ds) rest are none =
    let first = digit_word d (are 0 (omega arith)) in
    let more = digits_words ds rest (λ k inside. are (suc k) (omega (arith, inside))) none in (
      ap (λ p. cond p (1 + prefix_len is_word (ds ++ rest)) 0) first.0 ∙ ap (λ n. 1 + n) more.0 ∙ omega arith,
      ap (λ p. cond p (1 + prefix_len is_ascii_digit (ds ++ rest)) 0) first.1 ∙ ap (λ n. 1 + n) more.1 ∙ omega arith,
    )

-- a variable
pub spells_variable : (n : ℕ) (rest : List ℕ) → n < 2 ^ 64 → NoWord rest → Begins (95 ∷ decimal n ++ rest) (spelled.Variable (95 ∷ decimal n)) rest
spells_variable n rest small none =
    let size = digits_words (decimal n) rest (are_digits n small) none in
    let front = split-prefix_len is_word (decimal n) rest size.0 in
    subst (λ r. Begins (95 ∷ decimal n ++ rest) (spelled.Variable (95 ∷ decimal n)) r) front.1
    (subst (λ w. Begins (95 ∷ decimal n ++ rest) (spelled.Variable (95 ∷ w)) (drop (prefix_len is_word (decimal n ++ rest)) (decimal n ++ rest))) front.0
    (begins_variable 95 (decimal n ++ rest) refl))

-- a number
value-from : (ds : List ℕ) (n : ℕ) → AreDigits ds → decimal_from n ds ≡ digits_value_after 10 n ds
unfolding AreDigits
value-from [] n are = refl
value-from (d ∷ ds) n are =
    let first : digit_value d + 48 ≡ d = digit_value_digit d (are 0 (omega arith)) in
    let same : 10 * n + (d - 48) ≡ n * 10 + digit_value d = omega (arith, first) in
    ap (λ m. decimal_from m ds) same ∙ value-from ds (n * 10 + digit_value d) (λ k inside. are (suc k) (omega (arith, inside)))

spells_digits : (n : ℕ) (ds rest : List ℕ) → 0 < length ds → AreDigits ds → n ≡ decimal_from 0 ds → NoWord rest → Begins (ds ++ rest) (Number n) rest
unfolding AreDigits
spells_digits n [] rest some are value none = absurd (omega (arith, some))
spells_digits n (d ∷ ds) rest some are value none =
    let size = digits_words ds rest (λ k inside. are (suc k) (omega (arith, inside))) none in
    let front = split-prefix_len is_ascii_digit ds rest size.1 in
    subst (λ r. Begins (d ∷ ds ++ rest) (Number n) r) front.1
    (subst (λ m. Begins (d ∷ ds ++ rest) (Number m) (drop (prefix_len is_ascii_digit (ds ++ rest)) (ds ++ rest)))
    (ap (λ w. decimal_from 0 (d ∷ w)) front.0 ∙ sym value)
    (begins_number d (ds ++ rest) (digit_word d (are 0 (omega arith))).1))

pub spells_number : (n : ℕ) (rest : List ℕ) → n < 2 ^ 64 → NoWord rest → Begins (decimal n ++ rest) (Number n) rest
spells_number n rest small none =
    let numeral = decimal_is_IsNumeral n small in
    spells_digits n (decimal n) rest numeral.0.0 (are_digits n small) (sym (value-from (decimal n) 0 (are_digits n small) ∙ numeral.1)) none

-- a plain name
pub spells_word : (name rest : List ℕ) → is_name name ≡ true → NoWord rest → Begins (name ++ rest) (Word name) rest
spells_word [] rest e none = absurd (cc)
spells_word (b ∷ s) rest e none =
    let both = and_parts (is_ascii_lowercase b) (list_all is_word s) e in
    let front = split-prefix_len is_word s rest (all_words s rest both.1 none) in
    subst (λ r. Begins (b ∷ s ++ rest) (Word (b ∷ s)) r) front.1
    (subst (λ w. Begins (b ∷ s ++ rest) (Word (b ∷ w)) (drop (prefix_len is_word (s ++ rest)) (s ++ rest))) front.0
    (begins_word b (s ++ rest) both.0))

-- a quoted name

plain_large : (b : ℕ) → is_name_byte b ≡ true → b ≢ 10 → b ≢ 9 → nat_le 32 b ≡ true
plain_large b e i j = grind (arith, nat_tests)

end-byte : (b : ℕ) (s : List ℕ) → is_name_byte b ≡ true → quoted_end (quoted_byte b ++ s) ≡ further (length (quoted_byte b)) (quoted_end s)
end-byte b s e = by (form b)
  where
    by : Form b → quoted_end (quoted_byte b ++ s) ≡ further (length (quoted_byte b)) (quoted_end s)
    by (escaped c q m k) = ap (λ x. quoted_end (x ++ s)) q ∙ ap (λ t. if t then further 2 (quoted_end s) else None) k
        ∙ ap (λ x. further (length x) (quoted_end s)) (sym q)
    by (plain q n w x y) = ap (λ x. quoted_end (x ++ s)) q
        ∙ ap (λ t. if t then at_quote s else (if b == 92 then at_backslash s else (if nat_le 32 b then further 1 (quoted_end s) else None))) (ne_eqb b 39 n)
        ∙ ap (λ t. if t then at_backslash s else (if nat_le 32 b then further 1 (quoted_end s) else None)) (ne_eqb b 92 w)
        ∙ ap (λ t. if t then further 1 (quoted_end s) else None) (plain_large b e x y)
        ∙ ap (λ z. further (length z) (quoted_end s)) (sym q)

closing-end : (rest : List ℕ) → Follows rest → quoted_end (39 ∷ rest) ≡ Some 1
closing-end [] follows = refl
closing-end (b ∷ s) follows = ap (λ t. if t then or_one (quoted_end s) else Some 1) (ne_eqb b 39 follows.1)

name-end : (name rest : List ℕ) → list_all is_name_byte name ≡ true → Follows rest → quoted_end (flat_map quoted_byte name ++ 39 ∷ rest) ≡ Some (length (flat_map quoted_byte name) + 1)
name-end [] rest all follows = closing-end rest follows
name-end (b ∷ name) rest all follows =
    let both = and_parts (is_name_byte b) (list_all is_name_byte name) all in
    let inside = flat_map quoted_byte name in
    let size : length (quoted_byte b) + (length inside + 1) ≡ length (quoted_byte b ++ inside) + 1 = omega (arith, length-append (quoted_byte b) inside) in
    ap quoted_end (append_assoc (quoted_byte b) inside (39 ∷ rest)) ∙ end-byte b (inside ++ 39 ∷ rest) both.0
    ∙ ap (further (length (quoted_byte b))) (name-end name rest both.1 follows) ∙ ap Some size

unquoted-byte : (b : ℕ) (s : List ℕ) → unquoted (quoted_byte b ++ s) ≡ b ∷ unquoted s
unquoted-byte b s = by (form b)
  where
    by : Form b → unquoted (quoted_byte b ++ s) ≡ b ∷ unquoted s
    by (escaped c q m k) = ap (λ x. unquoted (x ++ s)) q ∙ ap (λ x. x ∷ unquoted s) m
    by (plain q n w x y) = ap (λ x. unquoted (x ++ s)) q
        ∙ ap (λ t. if t || b == 92 then unquoted_from true s else b ∷ unquoted_from false s) (ne_eqb b 39 n)
        ∙ ap (λ t. if false || t then unquoted_from true s else b ∷ unquoted_from false s) (ne_eqb b 92 w)

unquoted-name : (name : List ℕ) → unquoted (flat_map quoted_byte name) ≡ name
unquoted-name [] = refl
unquoted-name (b ∷ name) = unquoted-byte b (flat_map quoted_byte name) ∙ ap (λ x. b ∷ x) (unquoted-name name)

pub spells_quoted : (name rest : List ℕ) → list_all is_name_byte name ≡ true → Follows rest → Begins (quoted name ++ rest) (Quoted name) rest
spells_quoted name rest all follows =
    let inside = flat_map quoted_byte name in
    let behind = inside ++ 39 ∷ rest in
    let end = length inside + 1 in
    let split : quoted name ++ rest ≡ 39 ∷ behind = ap (λ x. 39 ∷ x) (append_assoc inside (39 ∷ []) rest) in
    let one_less : end - 1 ≡ length inside = omega arith in
    let meaning : unquoted (take (end - 1) behind) ≡ name =
    ap (λ n. unquoted (take n behind)) one_less ∙ ap unquoted (take-append_seam inside (39 ∷ rest)) ∙ unquoted-name name in
    let size : length (inside ++ 39 ∷ []) ≡ end = omega (arith, length-append inside (39 ∷ [])) in
    let left : drop end behind ≡ rest =
    ap (λ n. drop n behind) (sym size) ∙ ap (drop (length (inside ++ 39 ∷ []))) (sym (append_assoc inside (39 ∷ []) rest)) ∙ drop-append_seam (inside ++ 39 ∷ []) rest in
    subst (λ t. Begins t (Quoted name) rest) (sym split)
    (subst (λ r. Begins (39 ∷ behind) (Quoted name) r) left
    (subst (λ m. Begins (39 ∷ behind) (Quoted m) (drop end behind)) meaning (begins_quoted behind end (name-end name rest all follows))))

-- the token of a name
abbrev pub name_token : List ℕ → Lexeme
name_token name = if is_name name then Word name else Quoted name

pub spells_name : (name rest : List ℕ) → list_all is_name_byte name ≡ true → Follows rest → Begins (name_text name ++ rest) (name_token name) rest
spells_name name rest all follows = by (is_name name) refl
  where
    by : (p : Bool) → is_name name ≡ p → Begins (name_text name ++ rest) (name_token name) rest
    by true e = subst (λ q. Begins ((if q then name else quoted name) ++ rest) (if q then Word name else Quoted name) rest) (sym e) (spells_word name rest e (Follows-word rest follows))
    by false e = subst (λ q. Begins ((if q then name else quoted name) ++ rest) (if q then Word name else Quoted name) rest) (sym e) (spells_quoted name rest all follows)

-- The names of variables, as they are known.

abbrev pub variable_name : ℕ → List ℕ
variable_name n = 95 ∷ decimal n

abbrev pub variable_names : ℕ → List (List ℕ)
variable_names k = map variable_name (range_with_len 0 k)

names-eq : (m n : ℕ) → m < 2 ^ 64 → n < 2 ^ 64 → bytes_eq (variable_name n) (variable_name m) ≡ (m == n)
names-eq m n small small' =
    elim (eqb_tells m n) [
      | inl same ↦ (bytes_eq-Decides (variable_name n) (variable_name m)).1 (ap variable_name (sym same.1)) ∙ sym same.0
      | inr other ↦
          false_from_ne_true (bytes_eq (variable_name n) (variable_name m)) (λ e.
          other.1 (sym (decimal_injective n m small' small (cons_tail ((bytes_eq-Decides (variable_name n) (variable_name m)).0 e)))))
          ∙ sym other.0
    ]

position-place : (ms : List ℕ) (n : ℕ) → ((k d : ℕ) → k < length ms → get_or ms k d < 2 ^ 64) → n < 2 ^ 64 →
    position_or_len (bytes_eq (variable_name n)) (map variable_name ms) ≡ place_in ms n
position-place [] n small below = refl
position-place (m ∷ ms) n small below =
    let more = position-place ms n (λ k d inside. small (suc k) d (omega (arith, inside))) below in
    ap (λ b. cond (not b) (1 + position_or_len (bytes_eq (variable_name n)) (map variable_name ms)) 0) (names-eq m n (small 0 0 (omega arith)) below)
    ∙ elim (place_in_cases m ms n) [
      | inl here ↦ ap (λ b. cond (not b) (1 + position_or_len (bytes_eq (variable_name n)) (map variable_name ms)) 0) (equal m n here.0) ∙ sym here.1
      | inr behind ↦ ap (λ b. cond (not b) (1 + position_or_len (bytes_eq (variable_name n)) (map variable_name ms)) 0) (ne_eqb m n behind.0)
          ∙ omega (arith, more, behind.1)
    ]
  where
    equal : (m n : ℕ) → m ≡ n → (m == n) ≡ true
    equal m n e = grind (arith, nat_tests)

module _ (k n : ℕ) (few : k ≤ 256) (below : n < 2 ^ 64) where
  place : position_or_len (bytes_eq (variable_name n)) (variable_names k) ≡ place_in (range_with_len 0 k) n
  place = position-place (range_with_len 0 k) n (λ i d inside. omega (arith, get_or-range_with_len 0 k i d (omega (arith, inside, length-range_with_len 0 k)), inside, length-range_with_len 0 k, few)) below

  pub length-variable_names : length (variable_names k) ≡ k
  length-variable_names = length-map (range_with_len 0 k) variable_name ∙ length-range_with_len 0 k

  pub position-old : n < k → position (bytes_eq (variable_name n)) (variable_names k) ≡ Some n
  position-old inside =
      let at : position_or_len (bytes_eq (variable_name n)) (variable_names k) ≡ n = place ∙ (place_in-range k n (Stands-range k n inside)).0 in
      ap (λ i. cond (nat_lt i (length (variable_names k))) (Some i) None) at
      ∙ ap (λ p. cond p (Some n) None) (less n (length (variable_names k)) (omega (arith, inside, length-variable_names)))
    where
      less : (i j : ℕ) → i < j → nat_lt i j ≡ true
      less i j h = grind (arith, nat_tests)

  pub position-new : n ≡ k → position (bytes_eq (variable_name n)) (variable_names k) ≡ None
  position-new same =
      let past : length (variable_names k) ≤ position_or_len (bytes_eq (variable_name n)) (variable_names k) =
      omega (arith, place, length-variable_names, length-range_with_len 0 k, not_there) in
      ap (λ p. cond p (Some (position_or_len (bytes_eq (variable_name n)) (variable_names k))) None)
      (no_less (position_or_len (bytes_eq (variable_name n)) (variable_names k)) (length (variable_names k)) past)
    where
      no_less : (i j : ℕ) → j ≤ i → nat_lt i j ≡ false
      no_less i j h = grind (arith, nat_tests)

      not_there : k ≤ place_in (range_with_len 0 k) n
      not_there = elim (cases_lt (place_in (range_with_len 0 k) n) k) [
        | inl stands ↦ absurd (omega (arith, (place_in-range k n (omega (arith, stands, length-range_with_len 0 k))).1, same))
        | inr past ↦ past
      ]

  no_anonymous : is_anonymous (variable_name n) ≡ false
  no_anonymous =
      false_from_ne_true (is_anonymous (variable_name n)) (λ e.
      let none : decimal n ≡ [] = cons_tail ((bytes_eq-Decides (variable_name n) (codes "_")).0 e) in
      omega (arith, (decimal_is_IsNumeral n below).0.0, ap length none))

  pub number-old : n < k → number_of (variable_names k) (variable_name n) ≡ n
  number-old inside =
      ap (λ b. if b then length (variable_names k) else number_by (variable_names k) (position (bytes_eq (variable_name n)) (variable_names k))) no_anonymous
      ∙ ap (number_by (variable_names k)) (position-old inside)

  pub number-new : n ≡ k → number_of (variable_names k) (variable_name n) ≡ n
  number-new same =
      ap (λ b. if b then length (variable_names k) else number_by (variable_names k) (position (bytes_eq (variable_name n)) (variable_names k))) no_anonymous
      ∙ ap (number_by (variable_names k)) (position-new same) ∙ length-variable_names ∙ sym same

  pub known-old : n < k → known_after (variable_names k) (variable_name n) ≡ variable_names k
  known-old inside =
      ap (λ b. if b then learned (variable_names k) [] else known_by (variable_names k) (variable_name n) (position (bytes_eq (variable_name n)) (variable_names k))) no_anonymous
      ∙ ap (known_by (variable_names k) (variable_name n)) (position-old inside)

  pub known-new : n ≡ k → known_after (variable_names k) (variable_name n) ≡ variable_names (n + 1)
  known-new same =
      ap (λ b. if b then learned (variable_names k) [] else known_by (variable_names k) (variable_name n) (position (bytes_eq (variable_name n)) (variable_names k))) no_anonymous
      ∙ ap (known_by (variable_names k) (variable_name n)) (position-new same)
      ∙ ap (λ b. if b then variable_names k ++ variable_name n ∷ [] else variable_names k) (within (length (variable_names k)) (omega (arith, few, length-variable_names)))
      ∙ ap (λ j. variable_names j ++ variable_name n ∷ []) (sym same)
      ∙ sym (map-append variable_name (range_with_len 0 n) (n ∷ [])) ∙ ap (map variable_name) (sym (range_with_len_more n))
    where
      within : (i : ℕ) → i ≤ 256 → nat_le i 256 ≡ true
      within i h = grind (arith, nat_tests)
