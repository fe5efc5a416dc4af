-- What a list of calls has for a number, and what a change of it does.
use Rattle.std.proofs.Common.{◌≡◌, ℕ, zero, suc, ◌<◌, ◌≤◌, List, [], ◌∷◌, ◌++◌, length, get_or, set, Some, None, Result, Ok, Err, IfNone, IfSome, refl, sym, ap, ⊎_elim, length-append, arith}
use Rattle.std.specs.List.Sorted.{IsSearchInRange, IsBinarySearchResult}
use Rattle.std.specs.Ordering.{nat_cmp, ordering_index}
use Rattle.std.specs.Result.{result_ok}
use Rattle.std.proofs.lemmas.Bool.{cases_lt}
use Rattle.std.proofs.lemmas.Bool.Decides.{nat_tests}
use Rattle.std.proofs.lemmas.Cmp.{ranked}
use Rattle.std.proofs.lemmas.Grind.{common_steps}
use Rattle.std.proofs.lemmas.List.{get_or_append_left, get_or_push}
use Rattle.std.proofs.lemmas.List.Sorted.{IsNonDecreasingBy-from_default}
use Rattle.tc_calls.specs.Calls.{place_of, number_at, Rises, IsAbove, IsAt, SetsPlace}

tail-rises : (call : ℕ × ℕ) (calls : List (ℕ × ℕ)) → Rises (call ∷ calls) → Rises calls
tail-rises call calls rises i j before inside = rises (suc i) (suc j) (omega (arith, before)) (omega (arith, inside))

-- a number that no call has has no place
pub place_of-absent : (calls : List (ℕ × ℕ)) (n : ℕ) → ((i : ℕ) → i < length calls → number_at calls i ≡ n → ⊥) → place_of calls n ≡ None
place_of-absent [] n none = refl
place_of-absent (call ∷ calls) n none =
    grind (arith, nat_tests, none 0 (omega arith), place_of-absent calls n (λ i inside is. none (suc i) (omega (arith, inside)) is))

-- a call gives the place of its number
pub place_of-at : (calls : List (ℕ × ℕ)) (n i : ℕ) → Rises calls → IsAt calls n i → place_of calls n ≡ Some (get_or calls i (0, 0)).1
place_of-at [] n i rises at = absurd (omega (arith, at.inside))
place_of-at (call ∷ calls) n zero rises at = grind (arith, nat_tests, at.of)
place_of-at (call ∷ calls) n (suc i) rises at =
    grind (
      arith,
      nat_tests,
      at.of,
      rises 0 (suc i) (omega arith) at.inside,
      place_of-at calls n i (tail-rises call calls rises) (record { inside = omega (arith, at.inside); of = at.of }),
    )

-- a new call behind the others sets the place of its number
pub sets-push : (calls : List (ℕ × ℕ)) (n place : ℕ) → IsAbove n calls → SetsPlace n place calls (calls ++ (n, place) ∷ [])
sets-push [] n place above other = refl
sets-push (call ∷ calls) n place above other =
    grind (
      arith,
      nat_tests,
      above 0 (0, 0) (omega arith),
      sets-push calls n place (λ i d inside. above (suc i) d (omega (arith, inside))) other,
    )

-- so does another place where its call stands
pub sets-set : (calls : List (ℕ × ℕ)) (n place i : ℕ) → Rises calls → IsAt calls n i → SetsPlace n place calls (set calls i (n, place))
sets-set [] n place i rises at other = absurd (omega (arith, at.inside))
sets-set (call ∷ calls) n place zero rises at other = grind (arith, nat_tests, at.of)
sets-set (call ∷ calls) n place (suc i) rises at other =
    grind (
      arith,
      nat_tests,
      at.of,
      rises 0 (suc i) (omega arith) at.inside,
      sets-set calls n place i (tail-rises call calls rises) (record { inside = omega (arith, at.inside); of = at.of }) other,
    )

pub Rises-push : (calls : List (ℕ × ℕ)) (n place : ℕ) → Rises calls → IsAbove n calls → Rises (calls ++ (n, place) ∷ [])
Rises-push calls n place rises above i j before inside =
    let call : ℕ × ℕ = (n, place) in
    let number = λ (x : ℕ × ℕ). x.0 in
    let count = length-append calls (call ∷ []) in
    let low : i < length calls = omega (arith, before, inside, count) in
    let first : number_at (calls ++ call ∷ []) i ≡ number_at calls i = ap number (get_or_append_left calls (call ∷ []) (0, 0) i low) in
    ⊎_elim
    (λ (among : j < length calls).
    omega (arith, first, ap number (get_or_append_left calls (call ∷ []) (0, 0) j among), rises i j before among))
    (λ (behind : length calls ≤ j).
    let last : number_at (calls ++ call ∷ []) j ≡ n = ap number (get_or_push calls call (0, 0) j (omega (arith, behind, inside, count))) in
    omega (arith, first, last, above i (0, 0) low))
    (cases_lt j (length calls))

pub Rises-set : (calls : List (ℕ × ℕ)) (n place i : ℕ) → Rises calls → IsAt calls n i → Rises (set calls i (n, place))
Rises-set calls n place at rises is i j before inside =
    grind (arith, common_steps, rises i j, rises i at, rises at j, is.inside, is.of)

module _ (calls : List (ℕ × ℕ)) (n : ℕ) (rises : Rises calls) where
  abbrev rank : ℕ × ℕ → ℕ
  rank call = ordering_index (nat_cmp call.0 n)

  ranks-rise : (i j : ℕ) → i ≤ j → j < length calls → rank (get_or calls i (0, 0)) ≤ rank (get_or calls j (0, 0))
  ranks-rise i j up inside =
      let numbers : number_at calls i ≤ number_at calls j =
      grind (arith, rises i j, λ (same : i ≡ j). ap (number_at calls) same) in
      grind (arith, nat_tests)

  -- what a search finds
  pub found : (r : Result ℕ ℕ) → IsSearchInRange r (length calls) → IsBinarySearchResult (λ call. nat_cmp call.0 n) calls r
      → IfSome (result_ok r) (IsAt calls n)
  found (Ok i) inside is = record { inside = inside; of = ranked _ n _ (sym (is (0, 0))) }
  found (Err i) inside is = tt

  pub found-none : (r : Result ℕ ℕ) → IsSearchInRange r (length calls) → IsBinarySearchResult (λ call. nat_cmp call.0 n) calls r
      → IfNone (result_ok r) (place_of calls n ≡ None)
  found-none (Ok i) inside is = tt
  found-none (Err i) inside is =
      let parted = is (IsNonDecreasingBy-from_default rank calls (0, 0) ranks-rise) in
      place_of-absent calls n (λ k there at.
      ⊎_elim
      (λ (low : k < i).
      let below : number_at calls k < n = ranked _ n _ (sym (parted.0 k (0, 0) (omega arith) low)) in
      omega (arith, at, below))
      (λ (high : i ≤ k).
      let above : n < number_at calls k = ranked _ n _ (sym (parted.1 k (0, 0) high there)) in
      omega (arith, at, above))
      (cases_lt k i))
