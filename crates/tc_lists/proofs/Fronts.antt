-- Lists of which the first elements have been exchanged for those of a list as long.
use Rattle.std.proofs.Common.{◌≡◌, ℕ, zero, suc, ◌≤◌, List, [], ◌∷◌, ◌++◌, Some, length, set, slice_get, take, drop, refl, sym, ap, arith}
use Rattle.std.proofs.lemmas.Option.{none-some, same_Some}

-- the next one is exchanged
pub set_next-front : {X : Type 0} (n : ℕ) (xs ys : List X) (x : X) → length xs ≡ length ys → slice_get xs n ≡ Some x
    → set (take n xs ++ drop n ys) n x ≡ take (suc n) xs ++ drop (suc n) ys
set_next-front n [] ys x same at = absurd (none-some x at)
set_next-front n (z ∷ xs) [] x same at = absurd (omega (arith, same))
set_next-front zero (z ∷ xs) (y ∷ ys) x same at = ap (λ w. w ∷ ys) (same_Some x z (sym at))
set_next-front (suc n) (z ∷ xs) (y ∷ ys) x same at = ap (λ zs. z ∷ zs) (set_next-front n xs ys x (omega (arith, same)) at)

-- the next one is still as it was
pub slice_get_next-front : {X : Type 0} (n : ℕ) (xs ys : List X) → length xs ≡ length ys
    → slice_get (take n xs ++ drop n ys) n ≡ slice_get ys n
slice_get_next-front zero xs ys same = refl
slice_get_next-front (suc n) [] [] same = refl
slice_get_next-front (suc n) [] (y ∷ ys) same = absurd (omega (arith, same))
slice_get_next-front (suc n) (x ∷ xs) [] same = absurd (omega (arith, same))
slice_get_next-front (suc n) (x ∷ xs) (y ∷ ys) same = slice_get_next-front n xs ys (omega (arith, same))

-- all are exchanged
pub front_whole : {X : Type 0} (n : ℕ) (xs ys : List X) → length xs ≡ length ys → length xs ≤ n
    → take n xs ++ drop n ys ≡ xs
front_whole zero [] [] same all = refl
front_whole zero [] (y ∷ ys) same all = absurd (omega (arith, same))
front_whole zero (x ∷ xs) ys same all = absurd (omega (arith, all))
front_whole (suc n) [] [] same all = refl
front_whole (suc n) [] (y ∷ ys) same all = absurd (omega (arith, same))
front_whole (suc n) (x ∷ xs) [] same all = absurd (omega (arith, same))
front_whole (suc n) (x ∷ xs) (y ∷ ys) same all = ap (λ zs. x ∷ zs) (front_whole n xs ys (omega (arith, same)) (omega (arith, all)))
