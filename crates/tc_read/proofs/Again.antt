-- The text of a term is read as that term, where there is room for it and nothing goes on it.
use Rattle.std.proofs.Common.{◌≡◌, ◌∙◌, ◌⊎◌, ◌≤◌, ◌+◌, ◌==◌, ◌&&◌, ℕ, zero, suc, ℤ, pos, negsuc, Bool, true, false, cond, min, nat_lt, if◌then◌else◌, List, [], ◌∷◌, ◌++◌, codes, length, take, drop, FitsSigned, Some, None, refl, sym, ap, ap₂, inl, inr, subst, append_assoc, arith}
use Rattle.tc_term.specs.Bytes.{is_word, is_name_start}
use Rattle.tc_term.specs.Tree.{HasIntegers, HaveIntegers}
use Rattle.std.proofs.Math.Seq.{take-append_seam, drop-append_seam}
use Rattle.std.proofs.lemmas.Bool.Decides.{nat_tests}
use Rattle.std.proofs.lemmas.Slice.Eq.{bytes_eq-Decides}
use Rattle.std.specs.Char.{is_ascii_digit, is_ascii_lowercase}
use Rattle.std.specs.Fmt.{decimal, signed_decimal}
use Rattle.std.specs.List.{list_all, prefix_len}
use mir.Syntax.{w64}
use Rattle.tc_lists.proofs.Decimals.{decimal-first, decimal-not_nil, integer_at-again, number_at-again}
use Rattle.tc_lists.specs.Decimals.{StartsWithNoDigit, integer_at, number_at}
use Rattle.tc_term.specs.Text.{Alone, Behind, applied, is_name, is_nil, name_text, quoted, text_in, texts_of}
use Rattle.tc_term.specs.Tree.{Tree, Variable, Atomic, Number, Compound, Trees, Last, More, nodes, nodes_of_all}
use Rattle.tc_read.proofs.QuotedFront.{quoted_at-there}
use Rattle.tc_read.proofs.Lexemes.{lower_is_word, no_word_no_digit}
use Rattle.tc_read.proofs.Spent.{numbered-few, paid-some, spent_all-takes, then_in-some}
use Rattle.tc_read.proofs.Taken.{plain_text, quoted_text}
use Rattle.tc_read.proofs.Texts.{text_in-Variable, text_in-Number, text_in-nil, text_in-Atomic, text_in-cell, text_in-Compound, texts_of-Last, texts_of-More, text_in-barred}
use Rattle.tc_read.specs.Budget.{numbered, paid, spent, spent_all, then_in}
use Rattle.tc_read.specs.Canonical.{EndsTerm}
use Rattle.tc_read.specs.Front.{argument, arguments, atom, barred, before, called, cell, cell_of, compound, element, is_barred, is_cell, leaf, list, name_at, named, named_or_number, nil, node, number, quoted_at, reads, tail, unplain, variable, word_at}
use Rattle.tc_read.specs.declared.budget.Budget.{Budget}
use Rattle.std.proofs.lemmas.Bool.{eqb-true, lt-ltb, ne_eqb, and_parts}

-- no word byte stands here
abbrev pub NoWord : List ℕ → Type 0
NoWord [] = Unit {0}
NoWord (b ∷ s) = is_word b ≡ false

-- the term ends here: a compound by its bracket
abbrev pub Ends : Tree → List ℕ → Type 0
Ends (Compound name args) rest = Unit {0}
Ends t rest = EndsTerm rest

Stops-word : (rest : List ℕ) → EndsTerm rest → NoWord rest
Stops-word [] stops = tt
Stops-word (b ∷ s) stops = stops.0

pub Stops-digit : (rest : List ℕ) → EndsTerm rest → StartsWithNoDigit rest
Stops-digit [] stops = tt
Stops-digit (b ∷ s) stops = no_word_no_digit b stops.0

Stops-close : (s : List ℕ) → EndsTerm (41 ∷ s)
Stops-close s = (refl, λ e. omega (arith, e))

Stops-comma : (s : List ℕ) → EndsTerm (44 ∷ s)
Stops-comma s = (refl, λ e. omega (arith, e))

Stops-end : (s : List ℕ) → EndsTerm (93 ∷ s)
Stops-end s = (refl, λ e. omega (arith, e))

Stops-bar : (s : List ℕ) → EndsTerm (124 ∷ s)
Stops-bar s = (refl, λ e. omega (arith, e))

pub Ends-stops : (t : Tree) (rest : List ℕ) → EndsTerm rest → Ends t rest
Ends-stops (Variable n) rest stops = stops
Ends-stops (Atomic name) rest stops = stops
Ends-stops (Number z) rest stops = stops
Ends-stops (Compound name args) rest stops = tt

-- variables and numbers

pub variable-again : (d n : ℕ) (budget left : Budget) (rest : List ℕ) → then_in (numbered n budget) (paid 0) ≡ Some left →
    number_at 255 (decimal n ++ rest) ≡ Some (n, rest) → node (reads d) budget (text_in Alone (Variable n) ++ rest) ≡ Some (Variable n, left, rest)
variable-again d n budget left rest e found =
    ap (λ x. node (reads d) budget (x ++ rest)) (text_in-Variable Alone n) ∙ ap (variable budget) found ∙ ap (λ o. leaf o (Variable n) rest) e

variable-found : (n : ℕ) (budget left : Budget) (rest : List ℕ) → then_in (numbered n budget) (paid 0) ≡ Some left → EndsTerm rest →
    number_at 255 (decimal n ++ rest) ≡ Some (n, rest)
variable-found n budget left rest e stops =
    let (mid, at, more) = then_in-some (numbered n budget) (paid 0) left e in
    number_at-again 255 n rest (omega arith) (omega arith) (numbered-few n budget mid at) (Stops-digit rest stops)

-- what begins with a digit or a minus is a number
node-number : (d b : ℕ) (budget : Budget) (s : List ℕ) → (is_ascii_digit b ≡ true) ⊎ (b ≡ 45) →
    node (reads d) budget (b ∷ s) ≡ number budget (integer_at (b ∷ s))
node-number d b budget s first = by (no_letter first) (no_bracket first) (no_quote first) (no_lower first)
  where
    no_letter : (is_ascii_digit b ≡ true) ⊎ (b ≡ 45) → (b == 95) ≡ false
    no_letter (inl e) = grind (arith, nat_tests)
    no_letter (inr e) = grind (arith, nat_tests)

    no_bracket : (is_ascii_digit b ≡ true) ⊎ (b ≡ 45) → (b == 91) ≡ false
    no_bracket (inl e) = grind (arith, nat_tests)
    no_bracket (inr e) = grind (arith, nat_tests)

    no_quote : (is_ascii_digit b ≡ true) ⊎ (b ≡ 45) → (b == 39) ≡ false
    no_quote (inl e) = grind (arith, nat_tests)
    no_quote (inr e) = grind (arith, nat_tests)

    no_lower : (is_ascii_digit b ≡ true) ⊎ (b ≡ 45) → is_name_start b ≡ false
    no_lower (inl e) = grind (arith, nat_tests)
    no_lower (inr e) = grind (arith, nat_tests)

    by : (b == 95) ≡ false → (b == 91) ≡ false → (b == 39) ≡ false → is_name_start b ≡ false → node (reads d) budget (b ∷ s) ≡ number budget (integer_at (b ∷ s))
    by i j k l =
        ap (λ p. if p then variable budget (number_at 255 s)
        else (if b == 91 then list (reads d) budget s else named_or_number (reads d) budget (b ∷ s) (name_at budget.room.name_bytes (b ∷ s)))) i
        ∙ ap (λ p. if p then list (reads d) budget s else named_or_number (reads d) budget (b ∷ s) (name_at budget.room.name_bytes (b ∷ s))) j
        ∙ ap (λ p. named_or_number (reads d) budget (b ∷ s) (if p then unplain (quoted_at s)
        else (if is_name_start b && nat_lt 0 budget.room.name_bytes then Some (word_at budget.room.name_bytes (b ∷ s)) else None))) k
        ∙ ap (λ p. named_or_number (reads d) budget (b ∷ s) (if p && nat_lt 0 budget.room.name_bytes then Some (word_at budget.room.name_bytes (b ∷ s)) else None)) l

pub node-integer : (d : ℕ) (budget : Budget) (z : ℤ) (rest bytes : List ℕ) → FitsSigned w64 z → bytes ≡ signed_decimal z ++ rest →
    node (reads d) budget bytes ≡ number budget (integer_at bytes)
node-integer d budget (pos n) rest [] fits e = let bound = fits.sfits in absurd (decimal-not_nil n rest (omega arith) e)
node-integer d budget (pos n) rest (b ∷ s) fits e =
    let bound = fits.sfits in node-number d b budget s (inl ((decimal-first n b s rest (omega arith) e).digit))
node-integer d budget (negsuc n) rest bytes fits e =
    ap (node (reads d) budget) e ∙ node-number d 45 budget (decimal (suc n) ++ rest) (inr refl) ∙ ap (λ x. number budget (integer_at x)) (sym e)

number-again : (d : ℕ) (budget left : Budget) (z : ℤ) (rest : List ℕ) → paid 0 budget ≡ Some left → FitsSigned w64 z → StartsWithNoDigit rest →
    node (reads d) budget (text_in Alone (Number z) ++ rest) ≡ Some (Number z, left, rest)
number-again d budget left z rest e fits stops =
    ap (λ x. node (reads d) budget (x ++ rest)) (text_in-Number Alone z)
    ∙ node-integer d budget z rest (signed_decimal z ++ rest) fits refl
    ∙ ap (number budget) (integer_at-again z rest fits stops) ∙ ap (λ o. leaf o (Number z) rest) e

-- names

pub none_first : (rest : List ℕ) → NoWord rest → prefix_len is_word rest ≡ 0
none_first [] apart = refl
none_first (b ∷ s) apart = ap (λ p. cond p (1 + prefix_len is_word s) 0) apart

pub all_words : (name rest : List ℕ) → list_all is_word name ≡ true → NoWord rest → prefix_len is_word (name ++ rest) ≡ length name
all_words [] rest all apart = none_first rest apart
all_words (b ∷ name) rest all apart =
    let both = and_parts (is_word b) (list_all is_word name) all in
    ap (λ p. cond p (1 + prefix_len is_word (name ++ rest)) 0) (both.0)
    ∙ ap (λ n. 1 + n) (all_words name rest both.1 apart) ∙ omega arith

pub lower_no_quote : (b : ℕ) → is_ascii_lowercase b ≡ true → (b == 39) ≡ false
lower_no_quote b e = grind (arith, nat_tests)

word_at-again : (limit : ℕ) (name rest : List ℕ) → length name ≤ limit → prefix_len is_word (name ++ rest) ≡ length name →
    Some (word_at limit (name ++ rest)) ≡ Some (name, rest)
word_at-again limit name rest enough long =
    let size : min limit (prefix_len is_word (name ++ rest)) ≡ length name = omega (arith, enough, long) in
    ap (λ k. Some (take k (name ++ rest), drop k (name ++ rest))) size
    ∙ ap₂ (λ x y. Some (x, y)) (take-append_seam name rest) (drop-append_seam name rest)

name_at-plain : (limit : ℕ) (name rest : List ℕ) → is_name name ≡ true → length name ≤ limit → NoWord rest →
    name_at limit (name ++ rest) ≡ Some (name, rest)
name_at-plain limit [] rest plain enough apart = absurd (cc)
name_at-plain limit (b ∷ s) rest plain enough apart =
    let both = and_parts (is_ascii_lowercase b) (list_all is_word s) plain in
    let long : prefix_len is_word ((b ∷ s) ++ rest) ≡ length (b ∷ s) =
    ap (λ p. cond p (1 + prefix_len is_word (s ++ rest)) 0) (lower_is_word b both.0) ∙ ap (λ n. 1 + n) (all_words s rest both.1 apart) ∙ omega arith in
    let from = b ∷ (s ++ rest) in
    ap (λ p. if p then unplain (quoted_at (s ++ rest)) else (if is_name_start b && nat_lt 0 limit then Some (word_at limit from) else None)) (lower_no_quote b both.0)
    ∙ ap (λ p. if p && nat_lt 0 limit then Some (word_at limit from) else None) both.0
    ∙ ap (λ p. if true && p then Some (word_at limit from) else None) (lt-ltb 0 limit (omega (arith, enough)))
    ∙ word_at-again limit (b ∷ s) rest enough long

pub name_at-quoted : (limit : ℕ) (name rest : List ℕ) → is_name name ≡ false → name_at limit (quoted name ++ rest) ≡ Some (name, rest)
name_at-quoted limit name rest other =
    ap unplain (quoted_at-there _ name rest refl) ∙ ap (λ p. if p then None else Some (name, rest)) other

pub name_at-again : (limit : ℕ) (name rest : List ℕ) → length name ≤ limit → NoWord rest → name_at limit (name_text name ++ rest) ≡ Some (name, rest)
name_at-again limit name rest enough apart = by (is_name name) refl
  where
    by : (p : Bool) → is_name name ≡ p → name_at limit (name_text name ++ rest) ≡ Some (name, rest)
    by true e = ap (λ x. name_at limit (x ++ rest)) (plain_text name e) ∙ name_at-plain limit name rest e enough apart
    by false e = ap (λ x. name_at limit (x ++ rest)) (quoted_text name e) ∙ name_at-quoted limit name rest e

-- where a name is found, it decides
pub node-named : (d : ℕ) (budget : Budget) (bytes name rest : List ℕ) → name_at budget.room.name_bytes bytes ≡ Some (name, rest) →
    node (reads d) budget bytes ≡ named (reads d) budget name rest
node-named d budget [] name rest e = absurd (cc)
node-named d budget (b ∷ s) name rest e = by (b == 95) (b == 91) refl refl
  where
    no_name : (c : ℕ) → b ≡ c → name_at budget.room.name_bytes (c ∷ s) ≡ None → ⊥
    no_name c same none = let there : name_at budget.room.name_bytes (c ∷ s) ≡ Some (name, rest) = ap (λ x. name_at budget.room.name_bytes (x ∷ s)) (sym same) ∙ e in absurd (cc)

    by : (p q : Bool) → (b == 95) ≡ p → (b == 91) ≡ q → node (reads d) budget (b ∷ s) ≡ named (reads d) budget name rest
    by true q i j = absurd (no_name 95 (eqb-true b 95 i) refl)
    by false true i j = absurd (no_name 91 (eqb-true b 91 j) refl)
    by false false i j =
        ap (λ p. if p then variable budget (number_at 255 s)
        else (if b == 91 then list (reads d) budget s else named_or_number (reads d) budget (b ∷ s) (name_at budget.room.name_bytes (b ∷ s)))) i
        ∙ ap (λ p. if p then list (reads d) budget s else named_or_number (reads d) budget (b ∷ s) (name_at budget.room.name_bytes (b ∷ s))) j
        ∙ ap (named_or_number (reads d) budget (b ∷ s)) e

named-atom : (d : ℕ) (budget : Budget) (name rest : List ℕ) → EndsTerm rest → named (reads d) budget name rest ≡ atom name budget rest
named-atom d budget name [] stops = refl
named-atom d budget name (b ∷ s) stops = ap (λ p. if p then called (reads d) name budget s else atom name budget (b ∷ s)) (ne_eqb b 40 stops.1)

pub atom-again : (name : List ℕ) (budget left : Budget) (rest : List ℕ) → is_nil name ≡ false → paid (length name) budget ≡ Some left →
    atom name budget rest ≡ Some (Atomic name, left, rest)
atom-again name budget left rest some e = ap (λ p. if p then None else leaf (paid (length name) budget) (Atomic name) rest) some ∙ ap (λ o. leaf o (Atomic name) rest) e

atomic-again : (d : ℕ) (budget left : Budget) (name rest : List ℕ) → is_nil name ≡ false → paid (length name) budget ≡ Some left → EndsTerm rest →
    node (reads d) budget (text_in Alone (Atomic name) ++ rest) ≡ Some (Atomic name, left, rest)
atomic-again d budget left name rest some e stops =
    ap (λ x. node (reads d) budget (x ++ rest)) (text_in-Atomic Alone name some)
    ∙ node-named d budget (name_text name ++ rest) name rest
    (name_at-again budget.room.name_bytes name rest (paid-some (length name) budget left e).enough (Stops-word rest stops))
    ∙ named-atom d budget name rest stops ∙ atom-again name budget left rest some e

-- a term that is read again, in both places
pub record Again (t : Tree) : Type 0 where
  pub alone : (d : ℕ) (budget left : Budget) (rest : List ℕ) → spent (suc d) budget t ≡ Some left → HasIntegers t → Ends t rest →
      node (reads d) budget (text_in Alone t ++ rest) ≡ Some (t, left, rest)
  pub behind : (d : ℕ) (budget left : Budget) (rest : List ℕ) → spent (suc d) budget t ≡ Some left → HasIntegers t →
      tail (reads d) budget (text_in Behind t ++ rest) ≡ Some (t, left, rest)

-- a term that is no list
barred-again : (t : Tree) → is_barred t ≡ true →
    ((d : ℕ) (budget left : Budget) (rest : List ℕ) → spent (suc d) budget t ≡ Some left → HasIntegers t → Ends t rest →
    node (reads d) budget (text_in Alone t ++ rest) ≡ Some (t, left, rest)) → Again t
barred-again t bar alone = record {
  alone = alone;
  behind = λ d budget left rest e integers.
      ap (λ x. tail (reads d) budget (x ++ rest)) (text_in-barred t bar)
      ∙ ap (λ x. barred (node (reads d) budget x)) (append_assoc (text_in Alone t) (codes "]") rest)
      ∙ ap barred (alone d budget left (93 ∷ rest) e integers (Ends-stops t (93 ∷ rest) (Stops-end rest)))
      ∙ ap (λ p. if p then Some (t, left, rest) else None) bar;
}

-- at any depth
spent-zero : (budget : Budget) (t : Tree) → spent 0 budget t ≡ None
spent-zero budget (Variable n) = refl
spent-zero budget (Atomic name) = refl
spent-zero budget (Number z) = refl
spent-zero budget (Compound name args) = refl

pub reads-alone-again : (t : Tree) → Again t → (d : ℕ) (budget left : Budget) (rest : List ℕ) → spent d budget t ≡ Some left → HasIntegers t → Ends t rest →
    reads d Alone budget (text_in Alone t ++ rest) ≡ Some (t, left, rest)
reads-alone-again t again zero budget left rest e integers ends = let none : None ≡ Some left = sym (spent-zero budget t) ∙ e in absurd (cc)
reads-alone-again t again (suc d) budget left rest e integers ends = again.alone d budget left rest e integers ends

reads-behind-again : (t : Tree) → Again t → (d : ℕ) (budget left : Budget) (rest : List ℕ) → spent d budget t ≡ Some left → HasIntegers t →
    reads d Behind budget (text_in Behind t ++ rest) ≡ Some (t, left, rest)
reads-behind-again t again zero budget left rest e integers = let none : None ≡ Some left = sym (spent-zero budget t) ∙ e in absurd (cc)
reads-behind-again t again (suc d) budget left rest e integers = again.behind d budget left rest e integers

-- arguments
abbrev pub EachAgain : Trees → Type 0
EachAgain (Last t) = Again t
EachAgain (More t ts) = Again t × EachAgain ts

abbrev count : Trees → ℕ
count (Last t) = 1
count (More t ts) = suc (count ts)

arguments-again : (ts : Trees) → EachAgain ts → (d n : ℕ) (budget left : Budget) (rest : List ℕ) → count ts ≤ n →
    spent_all d budget ts ≡ Some left → HaveIntegers ts →
    arguments (reads d Alone) n budget (texts_of ts ++ 41 ∷ rest) ≡ Some (ts, left, rest)
arguments-again (Last t) again d zero budget left rest few e integers = absurd (omega (arith, few))
arguments-again (Last t) again d (suc n) budget left rest few e integers =
    ap (λ x. arguments (reads d Alone) (suc n) budget (x ++ 41 ∷ rest)) (texts_of-Last t)
    ∙ ap (argument (arguments (reads d Alone) n))
    (reads-alone-again t again d budget left (41 ∷ rest) e integers (Ends-stops t (41 ∷ rest) (Stops-close rest)))
arguments-again (More t ts) again d zero budget left rest few e integers = absurd (omega (arith, few))
arguments-again (More t ts) again d (suc n) budget left rest few e integers =
    let (mid, at, more) = then_in-some (spent d budget t) (λ now. spent_all d now ts) left e in
    let split : texts_of (More t ts) ++ 41 ∷ rest ≡ text_in Alone t ++ 44 ∷ (texts_of ts ++ 41 ∷ rest) =
    ap (λ x. x ++ 41 ∷ rest) (texts_of-More t ts)
    ∙ append_assoc (text_in Alone t ++ codes ",") (texts_of ts) (41 ∷ rest)
    ∙ append_assoc (text_in Alone t) (codes ",") (texts_of ts ++ 41 ∷ rest) in
    ap (arguments (reads d Alone) (suc n) budget) split
    ∙ ap (argument (arguments (reads d Alone) n))
    (reads-alone-again t again.0 d budget mid (44 ∷ (texts_of ts ++ 41 ∷ rest)) at integers.0 (Ends-stops t _ (Stops-comma (texts_of ts ++ 41 ∷ rest))))
    ∙ ap (before t) (arguments-again ts again.1 d n mid left rest (omega (arith, few)) more integers.1)

-- as many arguments as nodes at most
count_le-nodes : (ts : Trees) (d : ℕ) (budget left : Budget) → spent_all d budget ts ≡ Some left → count ts ≤ budget.room.nodes
count_le-nodes ts d budget left e = let taken = spent_all-takes ts d budget left e in omega (arith, taken.nodes, count-nodes ts)
  where
    some : (t : Tree) → 1 ≤ nodes t
    some (Variable n) = omega arith
    some (Atomic name) = omega arith
    some (Number z) = omega arith
    some (Compound name args) = omega arith

    count-nodes : (ts : Trees) → count ts ≤ nodes_of_all ts
    count-nodes (Last t) = some t
    count-nodes (More t ts) = omega (arith, some t, count-nodes ts)

called-again : (name : List ℕ) (args : Trees) → is_cell name args ≡ false → EachAgain args →
    (d : ℕ) (budget left : Budget) (rest : List ℕ) → spent (suc d) budget (Compound name args) ≡ Some left → HaveIntegers args → Unit {0} →
    node (reads d) budget (text_in Alone (Compound name args) ++ rest) ≡ Some (Compound name args, left, rest)
called-again name args other again d budget left rest e integers ends =
    let (mid, at, more) = then_in-some (paid (length name) budget) (λ now. spent_all d now args) left e in
    let inside = texts_of args ++ 41 ∷ rest in
    let split : text_in Alone (Compound name args) ++ rest ≡ name_text name ++ 40 ∷ inside =
    ap (λ x. x ++ rest) (text_in-Compound Alone name args other)
    ∙ append_assoc (name_text name ++ codes "(" ++ texts_of args) (codes ")") rest
    ∙ append_assoc (name_text name ++ codes "(") (texts_of args) (41 ∷ rest)
    ∙ append_assoc (name_text name) (codes "(") inside in
    ap (node (reads d) budget) split
    ∙ node-named d budget (name_text name ++ 40 ∷ inside) name (40 ∷ inside)
    (name_at-again budget.room.name_bytes name (40 ∷ inside) (paid-some (length name) budget mid at).enough refl)
    ∙ ap (λ o. compound name (then_in o (λ now. arguments (reads d Alone) now.room.nodes now inside))) at
    ∙ ap (compound name) (arguments-again args again d mid.room.nodes mid left rest (count_le-nodes args d mid left more) more integers)
    ∙ ap (λ p. if p then None else Some (Compound name args, left, rest)) other

-- lists

behind-stops : (t : Tree) (rest : List ℕ) → EndsTerm (text_in Behind t ++ rest)
behind-stops (Variable n) rest = subst (λ x. EndsTerm (x ++ rest)) (sym (text_in-Variable Behind n)) (Stops-bar ((95 ∷ decimal n ++ 93 ∷ []) ++ rest))
behind-stops (Atomic name) rest = by (is_nil name) refl
  where
    by : (p : Bool) → is_nil name ≡ p → EndsTerm (text_in Behind (Atomic name) ++ rest)
    by true e = subst (λ x. EndsTerm (x ++ rest)) (sym (text_in-nil Behind name e)) (Stops-end rest)
    by false e = subst (λ x. EndsTerm (x ++ rest)) (sym (text_in-Atomic Behind name e)) (Stops-bar ((name_text name ++ 93 ∷ []) ++ rest))
behind-stops (Number z) rest = subst (λ x. EndsTerm (x ++ rest)) (sym (text_in-Number Behind z)) (Stops-bar ((signed_decimal z ++ 93 ∷ []) ++ rest))
behind-stops (Compound name args) rest = by args (is_cell name args) refl
  where
    by : (args : Trees) (p : Bool) → is_cell name args ≡ p → EndsTerm (text_in Behind (Compound name args) ++ rest)
    by args false e = subst (λ x. EndsTerm (x ++ rest)) (sym (text_in-Compound Behind name args e)) (Stops-bar ((applied name (texts_of args) ++ 93 ∷ []) ++ rest))
    by (Last t) true e = absurd (cc)
    by (More t (Last u)) true e = subst (λ x. EndsTerm (x ++ rest)) (sym (text_in-cell Behind name t u e)) (Stops-comma (text_in Alone t ++ text_in Behind u ++ rest))
    by (More t (More u ts)) true e = absurd (cc)

-- where an element is read, the list isn't closed
list-element : (d : ℕ) (mid : Budget) (bytes : List ℕ) (r : Tree × Budget × List ℕ) → reads d Alone mid bytes ≡ Some r →
    (budget : Budget) → list (reads d) budget bytes ≡ element (reads d) budget bytes
list-element zero mid bytes r e budget = absurd (cc)
list-element (suc d) mid [] r e budget = absurd (cc)
list-element (suc d) mid (b ∷ s) r e budget = by (b == 93) refl
  where
    by : (p : Bool) → (b == 93) ≡ p → list (reads (suc d)) budget (b ∷ s) ≡ element (reads (suc d)) budget (b ∷ s)
    by true i = let apart : None ≡ Some r = ap (λ c. node (reads d) mid (c ∷ s)) (sym (eqb-true b 93 i)) ∙ e in absurd (cc)
    by false i = ap (λ p. if p then nil budget s else element (reads (suc d)) budget (b ∷ s)) i

module _ (t u : Tree) (first : Again t) (last : Again u) (d : ℕ) (budget left : Budget) (rest : List ℕ)
    (e : spent (suc d) budget (Compound (codes ".") (More t (Last u))) ≡ Some left) (integers : HasIntegers t × HasIntegers u) where
  element-again : (element (reads d) budget (text_in Alone t ++ (text_in Behind u ++ rest)) ≡ Some (Compound (codes ".") (More t (Last u)), left, rest))
      × (list (reads d) budget (text_in Alone t ++ (text_in Behind u ++ rest)) ≡ element (reads d) budget (text_in Alone t ++ (text_in Behind u ++ rest)))
  element-again =
      let (mid, at, more) = then_in-some (paid 1 budget) (λ now. then_in (spent d now t) (λ next. spent d next u)) left e in
      let (next, at_first, at_last) = then_in-some (spent d mid t) (λ next. spent d next u) left more in
      let after = text_in Behind u ++ rest in
      let one = reads-alone-again t first d mid next after at_first integers.0 (Ends-stops t after (behind-stops u rest)) in (
        ap (λ o. then_in o (λ now. cell (reads d Behind) (reads d Alone now (text_in Alone t ++ after)))) at
            ∙ ap (cell (reads d Behind)) one
            ∙ ap (cell_of t) (reads-behind-again u last d next left rest at_last integers.1),
        list-element d mid (text_in Alone t ++ after) (t, next, after) one budget,
      )

cell-again : (t u : Tree) → Again t → Again u → Again (Compound (codes ".") (More t (Last u)))
cell-again t u first last = record {
  alone = λ d budget left rest e integers ends.
      let read = element-again t u first last d budget left rest e integers in
      ap (λ x. node (reads d) budget (x ++ rest)) (text_in-cell Alone (codes ".") t u refl)
      ∙ ap (λ x. list (reads d) budget x) (append_assoc (text_in Alone t) (text_in Behind u) rest)
      ∙ read.1 ∙ read.0;
  behind = λ d budget left rest e integers.
      let read = element-again t u first last d budget left rest e integers in
      ap (λ x. tail (reads d) budget (x ++ rest)) (text_in-cell Behind (codes ".") t u refl)
      ∙ ap (λ x. element (reads d) budget x) (append_assoc (text_in Alone t) (text_in Behind u) rest)
      ∙ read.0;
}

compound-again : (name : List ℕ) (args : Trees) → EachAgain args → Again (Compound name args)
compound-again name args each = by args each (is_cell name args) refl
  where
    by : (args : Trees) → EachAgain args → (p : Bool) → is_cell name args ≡ p → Again (Compound name args)
    by args each false e = barred-again (Compound name args) (ap (λ p. if p then false else true) e) (called-again name args e each)
    by (Last t) each true e = absurd (cc)
    by (More t (Last u)) each true e = subst (λ n. Again (Compound n (More t (Last u)))) (sym ((bytes_eq-Decides name (codes ".")).0 e)) (cell-again t u each.0 each.1)
    by (More t (More u ts)) each true e = absurd (cc)

pub nil-again : Again (Atomic (codes "[]"))
nil-again = record {
  alone = λ d budget left rest e integers ends.
      ap (λ x. node (reads d) budget (x ++ rest)) (text_in-nil Alone (codes "[]") refl) ∙ ap (λ o. leaf o (Atomic (codes "[]")) rest) e;
  behind = λ d budget left rest e integers.
      ap (λ x. tail (reads d) budget (x ++ rest)) (text_in-nil Behind (codes "[]") refl) ∙ ap (λ o. leaf o (Atomic (codes "[]")) rest) e;
}

atom_again : (name : List ℕ) → Again (Atomic name)
atom_again name = by (is_nil name) refl
  where
    by : (p : Bool) → is_nil name ≡ p → Again (Atomic name)
    by true e = subst (λ n. Again (Atomic n)) (sym ((bytes_eq-Decides name (codes "[]")).0 e)) nil-again
    by false e = barred-again (Atomic name) (ap (λ p. if p then false else true) e)
        (λ d budget left rest paid integers stops. atomic-again d budget left name rest e paid stops)

-- each term is read again
mutual
  pub again : (t : Tree) → Again t
  again (Variable n) = barred-again (Variable n) refl (λ d budget left rest e integers stops. variable-again d n budget left rest e (variable-found n budget left rest e stops))
  again (Atomic name) = atom_again name
  again (Number z) = barred-again (Number z) refl (λ d budget left rest e integers stops. number-again d budget left z rest e integers (Stops-digit rest stops))
  again (Compound name args) = compound-again name args (each_again args)

  each_again : (ts : Trees) → EachAgain ts
  each_again (Last t) = again t
  each_again (More t ts) = (again t, each_again ts)
