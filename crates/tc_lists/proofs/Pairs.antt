-- What holds of all pairs of a list, and what a removal leaves.
use Rattle.std.proofs.Common.{◌≡◌, ◌≢◌, ◌⊎◌, ⊎_elim, ℕ, suc, ◌+◌, ◌-◌, ◌<◌, ◌≤◌, Bool, true, false, cond, Some}
use Rattle.std.proofs.Common.{List, [], ◌∷◌, ◌++◌, All, AllPairs, Contains, length, get_or, slice_get, take, drop, insert, remove, take_all, take_at, drop_at, length-take-le, length-take, get_or-take}
use Rattle.std.proofs.Common.{refl, sym, ap, ◌∙◌, subst, append-nil, arith}
use Rattle.std.proofs.lemmas.Bool.{cases_lt, cases_order}
use Rattle.std.proofs.lemmas.List.Edits.{length-remove, get_or-remove_below, get_or-remove_above}
use Rattle.std.proofs.lemmas.List.Quantifiers.{all_pairs_push}
use Rattle.std.proofs.lemmas.Option.{slice_get_within, slice_get-get_or, get_or_from_slice_get}
use Rattle.tc_lists.proofs.Parts.{split_read, take_read}

-- what holds of all pairs of a list holds of those behind its first element
pub AllPairs-tail : {X : Type 0} (R : X → X → Type 0) (x : X) (xs : List X) → AllPairs R (x ∷ xs) → AllPairs R xs
AllPairs-tail R x xs pairs i j d before inside = pairs (suc i) (suc j) d (omega arith) (omega arith)

-- a list that stays, or grows by an element that is in order with each, is still in order
pub AllPairs-push_if : {X : Type 0} (R : X → X → Type 0) (xs : List X) (y : X) (b : Bool)
    → AllPairs R xs → (b ≡ true → All (λ x. R x y) xs) → AllPairs R (xs ++ cond b (y ∷ []) [])
AllPairs-push_if R xs y true pairs above = all_pairs_push R xs y pairs (above refl)
AllPairs-push_if R xs y false pairs above = subst (AllPairs R) (sym (append-nil xs)) pairs

-- one more element, once it was read; and when all are read
pub AllPairs-take_read : {X : Type 0} (R : X → X → Type 0) (xs : List X) (i : ℕ) (x : X) → i < length xs
    → x ≡ get_or xs i x → AllPairs R (take i xs) → All (λ y. R y x) (take i xs) → AllPairs R (take (i + 1) xs)
AllPairs-take_read R xs i x inside at pairs before =
    subst (AllPairs R) (sym (take_read xs i x inside at)) (all_pairs_push R (take i xs) x pairs before)

pub AllPairs-from_take : {X : Type 0} (R : X → X → Type 0) (xs : List X) (i : ℕ) → length xs ≤ i
    → AllPairs R (take i xs) → AllPairs R xs
AllPairs-from_take R xs i past pairs = subst (AllPairs R) (take_all i xs past) pairs

-- what holds of all pairs holds of each element before a place and the one there
pub AllPairs-before : {X : Type 0} (R : X → X → Type 0) (xs : List X) (n : ℕ) (x : X) → n < length xs
    → x ≡ get_or xs n x → AllPairs R xs → All (λ y. R y x) (take n xs)
AllPairs-before R xs n x inside at pairs k d within =
    let there : slice_get xs n ≡ Some x = slice_get-get_or xs n x inside ∙ ap Some (sym at) in
    let below : k < n = omega (arith, within, length-take n xs) in
    subst (λ y. R y x) (sym (get_or-take n xs k d below))
    (subst (R (get_or xs k d)) (get_or_from_slice_get xs n x d there) (pairs k n d below inside))

-- where a relation that holds both ways holds of all pairs, what is removed has it to all that is left
pub AllPairs-removed : {X : Type 0} (R : X → X → Type 0) (xs : List X) (n : ℕ) (x : X) → ((y z : X) → R y z → R z y)
    → slice_get xs n ≡ Some x → AllPairs R xs → All (R x) (remove xs n)
AllPairs-removed R xs n x back at pairs k d inside =
    let within : n < length xs = slice_get_within xs n x at in
    let long = length-remove xs n within in
    subst (λ y. R y (get_or (remove xs n) k d)) (get_or_from_slice_get xs n x d at)
    (⊎_elim
    (λ (below : k < n).
    rw (get_or-remove_below xs n d k below within) (back (get_or xs k d) (get_or xs n d) (pairs k n d below within)))
    (λ (above : n ≤ k). rw (get_or-remove_above xs n d k above within) (pairs n (k + 1) d (omega arith) (omega arith)))
    (cases_lt k n))

-- an element stands at one place of a list whose elements differ
pub AllPairs-one_place : {X : Type 0} (xs : List X) (i j : ℕ) (x : X) → AllPairs ◌≢◌ xs
    → slice_get xs i ≡ Some x → slice_get xs j ≡ Some x → i ≡ j
AllPairs-one_place xs i j x differ here there =
    let apart : (m n : ℕ) → m < n → slice_get xs m ≡ Some x → slice_get xs n ≡ Some x → ⊥ =
    λ m n before first second.
    differ m n x before (slice_get_within xs n x second)
    (get_or_from_slice_get xs m x x first ∙ sym (get_or_from_slice_get xs n x x second)) in
    ⊎_elim
    (λ (same : i ≡ j). same)
    (λ (other : (i < j) ⊎ (j < i)).
    ⊎_elim (λ (less : i < j). absurd (apart i j less here there)) (λ (more : j < i). absurd (apart j i more there here)) other)
    (cases_order i j)

-- what is removed and put back
pub insert-remove : {X : Type 0} (xs : List X) (place : ℕ) (x : X) → place < length xs
    → x ≡ get_or xs place x → insert (remove xs place) place x ≡ xs
insert-remove xs place x inside is =
    let front : length (take place xs) ≡ place = length-take-le place xs (omega arith) in
    let one : place + 1 ≡ suc place = omega arith in
    ap (λ ys. ys ++ x ∷ drop place (remove xs place)) (take_at (take place xs) (drop (suc place) xs) place front)
    ∙ ap (λ ys. take place xs ++ x ∷ ys) (drop_at (take place xs) (drop (suc place) xs) place front)
    ∙ ap (λ n. take place xs ++ x ∷ drop n xs) (sym one)
    ∙ sym (split_read xs place x inside is)

-- what is not removed is left
pub Contains-remove : {X : Type 0} (xs : List X) (n : ℕ) (x y : X)
    → slice_get xs n ≡ Some y → y ≢ x → Contains xs x → Contains (remove xs n) x
Contains-remove xs n x y at other has =
    let within : n < length xs = slice_get_within xs n y at in
    let long = length-remove xs n within in
    let place : ℕ = has.0 in
    let inside : place < length xs = has.1 in
    ⊎_elim
    (λ (same : place ≡ n).
    absurd (other (sym (get_or_from_slice_get xs n y x at) ∙ ap (λ m. get_or xs m x) (sym same) ∙ has.2)))
    (λ (apart : (place < n) ⊎ (n < place)).
    ⊎_elim
    (λ (below : place < n). (place, omega arith, get_or-remove_below xs n x place below within ∙ has.2))
    (λ (above : n < place).
    let next : place - 1 + 1 ≡ place = omega arith in (
      place - 1,
      omega arith,
      get_or-remove_above xs n x (place - 1) (omega arith) within ∙ ap (λ m. get_or xs m x) next ∙ has.2,
    ))
    apart)
    (cases_order place n)
