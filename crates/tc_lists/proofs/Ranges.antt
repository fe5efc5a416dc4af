-- Numbers one after another.
use Rattle.std.proofs.Common.{◌≡◌, ◌∙◌, ℕ, zero, suc, ◌+◌, ◌<◌, List, [], ◌∷◌, ◌++◌, length, get_or, map, refl, sym, ap, add-one, map-id, arith}
use Rattle.std.proofs.lemmas.List.FromFn.{get_or-range_with_len, length-range_with_len}
use Rattle.std.specs.List.{range_with_len}
use mathlib.Core.List.{IsPrefix}
use Rattle.tc_lists.proofs.Prefixes.{get_or-IsPrefix, length-IsPrefix}

-- one number more
pub range_with_len_suc : (a n : ℕ) → range_with_len a (suc n) ≡ range_with_len a n ++ (a + n) ∷ []
range_with_len_suc a zero = ap (λ m. m ∷ []) (omega arith)
range_with_len_suc a (suc n) =
    ap (λ ms. a ∷ ms) (range_with_len_suc (a + 1) n ∙ ap (λ m. range_with_len (a + 1) n ++ m ∷ []) (omega arith))

pub range_with_len_more : (n : ℕ) → range_with_len 0 (n + 1) ≡ range_with_len 0 n ++ n ∷ []
range_with_len_more n =
    ap (range_with_len 0) (add-one n) ∙ range_with_len_suc 0 n ∙ ap (λ m. range_with_len 0 n ++ m ∷ []) (omega arith)

-- a function gives numbers one after another
pub map_is_range : {X : Type 0} (g : X → ℕ) (a : ℕ) (xs : List X)
    → ((k : ℕ) (d : X) → k < length xs → g (get_or xs k d) ≡ a + k) → map g xs ≡ range_with_len a (length xs)
map_is_range g a [] each = refl
map_is_range g a (x ∷ xs) each =
    let first : g x ≡ a = each 0 x (omega arith) ∙ omega arith in
    let rest : map g xs ≡ range_with_len (a + 1) (length xs) =
    map_is_range g (a + 1) xs (λ k d inside. each (suc k) d (omega (arith, inside)) ∙ omega arith) in
    cc

-- a list whose element at each place is the place
pub is_range : (ms : List ℕ) → ((k d : ℕ) → k < length ms → get_or ms k d ≡ k) → ms ≡ range_with_len 0 (length ms)
is_range ms each =
    sym (map-id ms) ∙ map_is_range (λ k. k) 0 ms (λ k d inside. each k d inside ∙ omega arith)

pub get_or-range : (n i d : ℕ) → i < n → get_or (range_with_len 0 n) i d ≡ i
get_or-range n i d inside = get_or-range_with_len 0 n i d inside ∙ omega arith

-- a beginning of such a list
pub IsPrefix-range : (ms : List ℕ) (n : ℕ) → IsPrefix ms (range_with_len 0 n) → ms ≡ range_with_len 0 (length ms)
IsPrefix-range ms n front =
    is_range ms (λ k d inside.
    sym (get_or-IsPrefix ms (range_with_len 0 n) k d front inside)
    ∙ get_or-range n k d (omega (arith, inside, length-IsPrefix ms (range_with_len 0 n) front, length-range_with_len 0 n)))

pub range_with_len_same : (a m n : ℕ) → range_with_len a m ≡ range_with_len a n → m ≡ n
range_with_len_same a m n e = sym (length-range_with_len a m) ∙ ap length e ∙ length-range_with_len a n
