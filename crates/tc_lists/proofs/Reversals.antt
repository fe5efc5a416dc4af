-- Lists turned round.
use Rattle.std.proofs.Common.{◌≡◌, ℕ, zero, suc, List, [], ◌∷◌, ◌++◌, length, map, reverse, slice_get, Some, refl, sym, ap, ◌∙◌, arith}
use Rattle.std.proofs.lemmas.List.{map-append, reverse-append}

pub map-reverse : {X Y : Type 0} (f : X → Y) (xs : List X) → map f (reverse xs) ≡ reverse (map f xs)
map-reverse f [] = refl
map-reverse f (x ∷ xs) =
    ap (map f) (reverse-append (x ∷ []) xs) ∙ map-append f (reverse xs) (x ∷ [])
    ∙ ap (λ ys. ys ++ f x ∷ []) (map-reverse f xs) ∙ sym (reverse-append (f x ∷ []) (map f xs))

pub reverse_push : {X : Type 0} (xs : List X) (x : X) → reverse (xs ++ x ∷ []) ≡ x ∷ reverse xs
reverse_push xs x = reverse-append xs (x ∷ [])

pub reverse-map_push : {X Y : Type 0} (f : X → Y) (xs : List X) (x : X) → reverse (map f (xs ++ x ∷ [])) ≡ f x ∷ reverse (map f xs)
reverse-map_push f xs x = ap reverse (map-append f xs (x ∷ [])) ∙ reverse_push (map f xs) (f x)

-- the last one comes first, turned round
pub reverse_last : {X : Type 0} (xs : List X) (i : ℕ) (x : X) → suc i ≡ length xs → slice_get xs i ≡ Some x
    → (ys : List X) × (reverse xs ≡ x ∷ ys)
reverse_last [] i x n e = absurd (omega (arith, n))
reverse_last (y ∷ []) zero x n e = ([], cc)
reverse_last (y ∷ []) (suc i) x n e = absurd (omega (arith, n))
reverse_last (y ∷ z ∷ xs) zero x n e = absurd (omega (arith, n))
reverse_last (y ∷ z ∷ xs) (suc i) x n e =
    let r = reverse_last (z ∷ xs) i x (omega (arith, n)) e in
    (r.0 ++ y ∷ [], reverse-append (y ∷ []) (z ∷ xs) ∙ ap (λ l. l ++ y ∷ []) r.1)
