-- Numbers that rise, after each change.
use Rattle.std.proofs.Common.{◌≡◌, ◌<◌, ◌≤◌, ◌+◌, ℕ, Result, Ok, Err, List, [], ◌∷◌, ◌++◌, length, get_or, ⊎_elim, length-append, arith}
use Rattle.std.specs.List.{remove}
use Rattle.std.specs.List.Sorted.{IsBinarySearchResult}
use Rattle.std.specs.Option.{IfSome, IfNone}
use Rattle.std.specs.Ordering.{nat_cmp}
use Rattle.std.specs.Result.{MatchResult, result_ok}
use Rattle.std.proofs.lemmas.Bool.{cases_lt}
use Rattle.std.proofs.lemmas.List.{get_or_append_left, get_or_push}
use Rattle.std.proofs.lemmas.List.Sorted.{searched}
use Rattle.std.proofs.lemmas.List.Edits.{length-remove, get_or-remove_below, get_or-remove_above}
use Rattle.tc_pending.specs.Rising.{NumbersRise, IsAbove, IsAt}

pub NumbersRise-push : (ns : List ℕ) (n : ℕ) → NumbersRise ns → IsAbove ns n → NumbersRise (ns ++ n ∷ [])
NumbersRise-push ns n rises above i j before inside =
    let count = length-append ns (n ∷ []) in
    let low : i < length ns = omega (arith, before, inside, count) in
    let first : get_or (ns ++ n ∷ []) i 0 ≡ get_or ns i 0 = get_or_append_left ns (n ∷ []) 0 i low in
    ⊎_elim
    (λ (among : j < length ns).
    omega (arith, first, get_or_append_left ns (n ∷ []) 0 j among, rises i j before among))
    (λ (behind : length ns ≤ j).
    let last : get_or (ns ++ n ∷ []) j 0 ≡ n = get_or_push ns n 0 j (omega (arith, behind, inside, count)) in
    omega (arith, first, last, above i 0 low))
    (cases_lt j (length ns))

pub NumbersRise-remove : (ns : List ℕ) (place : ℕ) → place < length ns → NumbersRise ns → NumbersRise (remove ns place)
NumbersRise-remove ns place there rises i j before inside =
    let count = length-remove ns place there in
    ⊎_elim
    (λ (low : j < place).
    let first = get_or-remove_below ns place 0 i (omega (arith, before, low)) there in
    let second = get_or-remove_below ns place 0 j low there in
    omega (arith, first, second, rises i j before (omega (arith, low, there))))
    (λ (high : place ≤ j).
    let second = get_or-remove_above ns place 0 j high there in
    ⊎_elim
    (λ (low : i < place).
    let first = get_or-remove_below ns place 0 i low there in
    omega (arith, first, second, rises i (j + 1) (omega (arith, before)) (omega (arith, inside, count))))
    (λ (also : place ≤ i).
    let first = get_or-remove_above ns place 0 i also there in
    omega (arith, first, second, rises (i + 1) (j + 1) (omega (arith, before)) (omega (arith, inside, count))))
    (cases_lt i place))
    (cases_lt j place)

-- none before stands for as much
pub NumbersRise-le : (ns : List ℕ) (i j : ℕ) → NumbersRise ns → i ≤ j → j < length ns → get_or ns i 0 ≤ get_or ns j 0
NumbersRise-le ns i j rises up inside =
    ⊎_elim (λ (before : i < j). omega (arith, rises i j before inside))
    (λ (same : j ≤ i). let is : i ≡ j = omega (arith, same, up) in rw is (omega arith)) (cases_lt i j)

-- where none before is below a number, and none behind above it
pub record IsGap (ns : List ℕ) (n place : ℕ) : Type 0 where
  pub inside : place ≤ length ns
  pub below : (k : ℕ) → k < place → get_or ns k 0 < n
  pub above : (k : ℕ) → place ≤ k → k < length ns → n ≤ get_or ns k 0

module _ (ns : List ℕ) (n : ℕ) (rises : NumbersRise ns) where
  -- what a search finds
  searched_in : (r : Result ℕ ℕ) → IsBinarySearchResult (λ y. nat_cmp y n) ns r
      → MatchResult r (IsAt ns n)
      (λ i. (i ≤ length ns) × ((k : ℕ) → k < i → get_or ns k 0 < n) × ((k : ℕ) → i ≤ k → k < length ns → n < get_or ns k 0))
  searched_in r is = searched ns n r is (λ i j up inside. NumbersRise-le ns i j rises up inside)

  pub gap_at : (i : ℕ) → IsBinarySearchResult (λ y. nat_cmp y n) ns (Ok i) → IsGap ns n i
  gap_at i is =
      let at = searched_in (Ok i) is in
      record {
        inside = omega (arith, at.0);
        below = λ k before. omega (arith, at.1, rises k i before at.0);
        above = λ k up there. omega (arith, at.1, NumbersRise-le ns i k rises up there);
      }

  pub gap_between : (i : ℕ) → IsBinarySearchResult (λ y. nat_cmp y n) ns (Err i) → IsGap ns n i
  gap_between i is =
      let at = searched_in (Err i) is in
      record {
        inside = at.0;
        below = at.1;
        above = λ k up there. omega (arith, at.2 k up there);
      }

  pub found_ok : (r : Result ℕ ℕ) → IsBinarySearchResult (λ y. nat_cmp y n) ns r → IfSome (result_ok r) (IsAt ns n)
  found_ok (Ok i) is = searched_in (Ok i) is
  found_ok (Err i) is = tt

  pub none_ok : (r : Result ℕ ℕ) → IsBinarySearchResult (λ y. nat_cmp y n) ns r
      → IfNone (result_ok r) ((k : ℕ) → IsAt ns n k → ⊥)
  none_ok (Ok i) is = tt
  none_ok (Err i) is = λ k at.
      let gap = searched_in (Err i) is in
      ⊎_elim (λ (low : k < i). absurd (omega (arith, at.1, gap.1 k low)))
      (λ (high : i ≤ k). absurd (omega (arith, at.1, gap.2 k high at.0))) (cases_lt k i)
