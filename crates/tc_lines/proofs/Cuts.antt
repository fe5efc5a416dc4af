-- Where bytes are cut.
use Rattle.std.proofs.Common.{◌≡◌, ℕ, ◌+◌, ◌-◌, ◌<◌, ◌≤◌, List, [], ◌∷◌, Option, Some, None, Result, ◌++◌, length, take, drop, sym, ap, subst, ◌∙◌, arith, take-append-drop, length-append, length-drop, length-take-le, eq-eqb, inl, inr, ◌⊎◌}
use Rattle.std.specs.Prelude.{slice_index}
use Rattle.std.proofs.Math.ListN.{drop_of_length-le}
use Rattle.std.proofs.Math.Seq.{get_or-append_seam}
use Rattle.std.proofs.lemmas.List.{drop-drop, drop_more, get_or-drop, get_or-take}
use Rattle.std.proofs.lemmas.Bool.{cases_lt, eqb-true}
use Rattle.memchr.specs.Find.{IsFirstByte, is_byte}
use Rattle.tc_lines.specs.Lines.{HasNoBreakFrom, IsBreak, IsReadAs}
use Rattle.tc_lines.specs.Requests.{BeginsWith, IsRequest}
use Rattle.tc_lines.specs.declared.limits.TheConstants.{MOST_LINE}
use Rattle.tc_lines.specs.declared.requests.BadLine.{BadLine}
use Rattle.tc_lines.specs.declared.requests.LineAsk.{LineAsk}

-- a list up to a place, the element there, and what stands behind
pub cut-at : (xs : List ℕ) (at : ℕ) → at < length xs → xs ≡ take at xs ++ slice_index xs at ∷ drop (at + 1) xs
cut-at xs at within = sym (take-append-drop at xs) ∙ ap (λ l. take at xs ++ l) (drop_more xs at 0 within)

nothing_behind : (xs : List ℕ) (n : ℕ) → length xs ≤ n → drop n xs ≡ []
nothing_behind xs n within = drop_of_length-le xs within

-- the last element of a list behind the others
pub cut-last : (xs : List ℕ) (n : ℕ) → n + 1 ≡ length xs → xs ≡ take n xs ++ slice_index xs n ∷ []
cut-last xs n last = cut-at xs n (omega (arith, last)) ∙ ap (λ l. take n xs ++ slice_index xs n ∷ l) (nothing_behind xs (n + 1) (omega (arith, last)))

-- the last element is the one behind a front
pub last-is : (xs front : List ℕ) (x n : ℕ) → xs ≡ front ++ x ∷ [] → n + 1 ≡ length xs → slice_index xs n ≡ x
last-is xs front x n is last =
    let long : n ≡ length front = omega (arith, last, ap length is, length-append front (x ∷ [])) in
    ap (λ m. slice_index xs m) long ∙ ap (λ l. slice_index l (length front)) is ∙ get_or-append_seam front x [] 0

-- the bytes from one place on, cut at a later one
pub cut-from : (bytes : List ℕ) (from at : ℕ) → from ≤ at → at < length bytes
    → drop from bytes ≡ take (at - from) (drop from bytes) ++ slice_index bytes at ∷ drop (at + 1) bytes
cut-from bytes from at behind within =
    let there : from + (at - from) ≡ at = omega (arith, behind) in
    cut-at (drop from bytes) (at - from) (omega (arith, behind, within, length-drop from bytes))
    ∙ ap (λ b. take (at - from) (drop from bytes) ++ b ∷ drop (at - from + 1) (drop from bytes)) (get_or-drop from bytes (at - from) 0 ∙ ap (λ k. slice_index bytes k) there)
    ∙ ap (λ l. take (at - from) (drop from bytes) ++ slice_index bytes at ∷ l) (drop-drop (at - from + 1) from bytes ∙ ap (λ k. drop k bytes) (omega (arith, there)))

-- what memchr finds in the bytes from one place on
pub break-found : (hay bytes : List ℕ) (from at : ℕ) (r : Option ℕ) → hay ≡ drop from bytes → from ≤ length bytes → IsFirstByte (is_byte 10) hay r → r ≡ Some at
    → IsBreak bytes from (from + at)
break-found hay bytes from at r is within first found =
    let f = subst (IsFirstByte (is_byte 10) hay) found first in
    let there : slice_index bytes (from + at) ≡ slice_index hay at = sym (get_or-drop from bytes at 0) ∙ ap (λ l. slice_index l at) (sym is) in
    record {
      behind = omega arith;
      within = omega (arith, f.0.high, ap length is, length-drop from bytes, within);
      is = there ∙ eqb-true (slice_index hay at) 10 f.1;
      first = λ k low high lf.
          let same : slice_index hay (k - from) ≡ slice_index bytes k = ap (λ l. slice_index l (k - from)) is ∙ get_or-drop from bytes (k - from) 0 ∙ ap (λ n. slice_index bytes n) (omega (arith, low)) in
          f.0.before (k - from) (omega arith) (omega (arith, low, high)) (eq-eqb (slice_index hay (k - from)) 10 (same ∙ lf));
    }

pub break-none : (hay bytes : List ℕ) (from : ℕ) (r : Option ℕ) → hay ≡ drop from bytes → from ≤ length bytes → IsFirstByte (is_byte 10) hay r → r ≡ None
    → HasNoBreakFrom bytes from
break-none hay bytes from r is within first none =
    let f = subst (IsFirstByte (is_byte 10) hay) none first in
    λ k low high lf.
    let same : slice_index hay (k - from) ≡ slice_index bytes k = ap (λ l. slice_index l (k - from)) is ∙ get_or-drop from bytes (k - from) 0 ∙ ap (λ n. slice_index bytes n) (omega (arith, low)) in
    f (k - from) (omega arith) (omega (arith, low, high, ap length is, length-drop from bytes, within)) (eq-eqb (slice_index hay (k - from)) 10 (same ∙ lf))

by_side : (bytes : List ℕ) (from looked at : ℕ) → ((k : ℕ) → from ≤ k → k < looked → slice_index bytes k ≡ 10 → ⊥) → ((k : ℕ) → looked ≤ k → k < at → slice_index bytes k ≡ 10 → ⊥)
    → (k : ℕ) → from ≤ k → k < at → slice_index bytes k ≡ 10 → (k < looked) ⊎ (looked ≤ k) → ⊥
by_side bytes from looked at clear first k low high lf (inl below) = clear k low below lf
by_side bytes from looked at clear first k low high lf (inr above) = first k above high lf

before-break : (bytes : List ℕ) (from looked at : ℕ) → ((k : ℕ) → from ≤ k → k < looked → slice_index bytes k ≡ 10 → ⊥) → ((k : ℕ) → looked ≤ k → k < at → slice_index bytes k ≡ 10 → ⊥)
    → (k : ℕ) → from ≤ k → k < at → slice_index bytes k ≡ 10 → ⊥
before-break bytes from looked at clear first k low high lf = by_side bytes from looked at clear first k low high lf (cases_lt k looked)

-- a line that was found, with what was searched before, and what it asks
pub line_found : (bytes line rest : List ℕ) (asked : Result LineAsk BadLine) (from looked at : ℕ)
    → from ≤ looked → looked ≤ length bytes → length bytes ≤ from + (MOST_LINE + 1)
    → ((k : ℕ) → from ≤ k → k < looked → slice_index bytes k ≡ 10 → ⊥) → IsBreak bytes looked at
    → IsReadAs (take (at - from) (drop from bytes)) line → IsRequest line asked
    → rest ≡ drop (at + 1) bytes → BeginsWith (drop from bytes) asked rest
line_found bytes line rest asked from looked at order within few clear b read request is =
    let low : from ≤ at = omega (arith, order, b.behind) in
    let long : length (take (at - from) (drop from bytes)) ≡ at - from = length-take-le (at - from) (drop from bytes) (omega (arith, low, b.within, length-drop from bytes)) in
    record {
      raw = take (at - from) (drop from bytes);
      asks = record {
        is = record {
          one = λ k zero_le high lf.
              let small : k < at - from = subst (λ n. k < n) long high in
              let same : slice_index bytes (from + k) ≡ 10 = sym (get_or-drop from bytes k 0) ∙ sym (get_or-take (at - from) (drop from bytes) k 0 small) ∙ lf in
              before-break bytes from looked at clear b.first (from + k) (omega arith) (omega (arith, small, low)) same;
          fits = omega (arith, long, b.within, few, low);
        };
        line = line;
        read = read;
        request = request;
      };
      is = cut-from bytes from at low b.within ∙ ap (λ x. take (at - from) (drop from bytes) ++ x ∷ drop (at + 1) bytes) b.is ∙ ap (λ l. take (at - from) (drop from bytes) ++ 10 ∷ l) (sym is);
    }
