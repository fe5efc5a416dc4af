-- Parts of a list: its first and its last element, what stands before and behind a place.
use Rattle.std.proofs.Common.{◌≡◌, ◌⊎◌, ℕ, zero, suc, ◌+◌, ◌-◌, ◌<◌, ◌≤◌, List, [], ◌∷◌, ◌++◌, length, get_or, slice_get, take, drop, Some, inl, inr, refl, sym, ap, ◌∙◌, length-append, length-take, length-drop, take_all, arith}
use Rattle.std.proofs.Math.Seq.{take-append_seam, drop-append_seam}
use Rattle.std.proofs.lemmas.List.{append_assoc, take_at, take_more, drop_all, drop_more, drop-append-le, take-append-drop, take-append-le}
use Rattle.std.proofs.lemmas.Option.{same_Some}

-- two lists that are one
pub cons_head : {X : Type 0} {x y : X} {xs ys : List X} → x ∷ xs ≡ y ∷ ys → x ≡ y
cons_head e = cc

pub cons_tail : {X : Type 0} {x y : X} {xs ys : List X} → x ∷ xs ≡ y ∷ ys → xs ≡ ys
cons_tail e = cc

-- lists whose fronts are as long go on alike
pub append_parts : {X : Type 0} (xs ys us vs : List X) → xs ++ us ≡ ys ++ vs → length xs ≡ length ys
    → (xs ≡ ys) × (us ≡ vs)
append_parts [] [] us vs e long = (refl, e)
append_parts [] (y ∷ ys) us vs e long = absurd (omega arith)
append_parts (x ∷ xs) [] us vs e long = absurd (omega arith)
append_parts (x ∷ xs) (y ∷ ys) us vs e long =
    let rest = append_parts xs ys us vs (cons_tail e) (omega arith) in
    let head : x ≡ y = cons_head e in
    let front = rest.0 in
    (cc, rest.1)

-- a list is empty or has a last element
pub nil_or_push : {X : Type 0} (xs : List X) → (xs ≡ []) ⊎ ((front : List X) × (last : X) × (xs ≡ front ++ last ∷ []))
nil_or_push [] = inl refl
nil_or_push (x ∷ xs) =
    elim (nil_or_push xs) [
      | inl none ↦ inr ([], x, ap (λ ys. x ∷ ys) none)
      | inr (front, last, split) ↦ inr (x ∷ front, last, ap (λ ys. x ∷ ys) split)
    ]

pub push_from_length : {X : Type 0} (xs : List X) (n : ℕ) → length xs ≡ n + 1 → (front : List X) × (last : X) × (xs ≡ front ++ last ∷ [])
push_from_length xs n some =
    elim (nil_or_push xs) [
      | inl none ↦ absurd (omega (arith, some, ap length none))
      | inr push ↦ push
    ]

-- a list of one element
pub singleton_read : {X : Type 0} (xs : List X) (x : X) → 1 ≤ length xs → length xs < 2 → x ≡ get_or xs 0 x → xs ≡ x ∷ []
singleton_read [] x some one is = absurd (omega arith)
singleton_read (y ∷ []) x some one is = cc
singleton_read (y ∷ z ∷ xs) x some one is = absurd (omega arith)

-- one more element, once it was read
pub take_read : {X : Type 0} (xs : List X) (i : ℕ) (x : X) → i < length xs → x ≡ get_or xs i x
    → take (i + 1) xs ≡ take i xs ++ x ∷ []
take_read xs i x inside at = take_more xs i x inside ∙ ap (λ y. take i xs ++ y ∷ []) (sym at)

pub drop_read : {X : Type 0} (xs : List X) (i : ℕ) (x : X) → i < length xs → x ≡ get_or xs i x
    → drop i xs ≡ x ∷ drop (i + 1) xs
drop_read xs i x inside at = drop_more xs i x inside ∙ ap (λ y. y ∷ drop (i + 1) xs) (sym at)

-- a list round an element
pub split_read : {X : Type 0} (xs : List X) (i : ℕ) (x : X) → i < length xs → x ≡ get_or xs i x
    → xs ≡ take i xs ++ x ∷ drop (i + 1) xs
split_read xs i x inside at =
    sym (take-append-drop i xs) ∙ ap (λ ys. take i xs ++ ys) (drop_read xs i x inside at)

-- a list and the last element that was read
pub split_last_read : {X : Type 0} (xs : List X) (x : X) → 0 < length xs → x ≡ get_or xs (length xs - 1) x
    → xs ≡ take (length xs - 1) xs ++ x ∷ []
split_last_read xs x some at =
    let i = length xs - 1 in
    split_read xs i x (omega (arith, some)) at
    ∙ ap (λ ys. take i xs ++ x ∷ ys) (drop_all (i + 1) xs (omega (arith, some)))

pub split_slice_get : {X : Type 0} (xs : List X) (i : ℕ) (x : X) → slice_get xs i ≡ Some x
    → xs ≡ take i xs ++ x ∷ drop (suc i) xs
split_slice_get [] i x at = absurd (cc)
split_slice_get (y ∷ xs) zero x at = ap (λ z. z ∷ xs) (same_Some y x at)
split_slice_get (y ∷ xs) (suc i) x at = ap (λ zs. y ∷ zs) (split_slice_get xs i x at)

-- what stands behind a front of this length
pub drop_front : {X : Type 0} (whole front rest : List X) (n : ℕ) → whole ≡ front ++ rest → n ≡ length front → drop n whole ≡ rest
drop_front whole front rest n split long =
    ap (λ m. drop m whole) long ∙ ap (drop (length front)) split ∙ drop-append_seam front rest

-- a front whose end has this place, told by what stands behind it
pub drop_behind : {X : Type 0} (whole front rest : List X) (end : ℕ) → whole ≡ front ++ rest
    → end + length rest ≡ length whole → drop end whole ≡ rest
drop_behind whole front rest end split place =
    drop_front whole front rest end split (omega (arith, length-append front rest, ap length split, place))

-- all that stands behind a front, as so many elements from there
pub take-drop_front : {X : Type 0} (whole front rest : List X) (n : ℕ) → whole ≡ front ++ rest → n ≡ length front
    → take (length whole - n) (drop n whole) ≡ rest
take-drop_front whole front rest n split long =
    ap (take (length whole - n)) (drop_front whole front rest n split long)
    ∙ take_all (length whole - n) rest (omega (arith, length-append front rest, ap length split, long))

pub take-drop-append : {X : Type 0} (front xs : List X) → take (length xs) (drop (length front) (front ++ xs)) ≡ xs
take-drop-append front xs =
    ap (take (length xs)) (drop-append_seam front xs) ∙ take_all (length xs) xs (omega arith)

pub length-take-drop : {X : Type 0} (xs : List X) (from n : ℕ) → from + n ≤ length xs → length (take n (drop from xs)) ≡ n
length-take-drop xs from n within = omega (arith, length-take n (drop from xs), length-drop from xs)

-- the front is exchanged for one that is as long
pub take-append_all : {X : Type 0} (new old : List X) (n : ℕ) → length new ≡ length old → n ≡ length old
    → take n (new ++ drop (length new) old) ≡ new
take-append_all new old n same long =
    ap (λ m. take m (new ++ drop (length new) old)) (long ∙ sym same) ∙ take-append_seam new (drop (length new) old)

-- a list without the element that was pushed
pub take_pushed : {X : Type 0} (xs : List X) (x : X) → take (length (xs ++ x ∷ []) - 1) (xs ++ x ∷ []) ≡ xs
take_pushed xs x =
    take_at xs (x ∷ []) (length (xs ++ x ∷ []) - 1) (omega (arith, length-append xs (x ∷ [])))

-- what a pop leaves, told by the list as it was
pub length-popped : {X : Type 0} (xs rest : List X) (x : X) (i n : ℕ) → xs ≡ rest ++ x ∷ [] → n ≡ length xs
    → i < n → i ≤ length rest
length-popped xs rest x i n split long below = omega (arith, ap length split, length-append rest (x ∷ []), long)

pub take-popped : {X : Type 0} (xs rest : List X) (x : X) (i : ℕ) → xs ≡ rest ++ x ∷ [] → i ≤ length rest
    → take i rest ≡ take i xs
take-popped xs rest x i split within = sym (ap (take i) split ∙ take-append-le i rest (x ∷ []) within)

pub drop-popped : {X : Type 0} (xs rest : List X) (x : X) (i : ℕ) → xs ≡ rest ++ x ∷ [] → i ≤ length rest
    → drop i xs ≡ drop i rest ++ x ∷ []
drop-popped xs rest x i split within = ap (drop i) split ∙ drop-append-le i rest (x ∷ []) within

-- more is taken of a longer list, where there is room behind what was taken
pub take-append_room : {X : Type 0} (n : ℕ) (xs ys : List X)
    → take n xs ++ take (n - length (take n xs)) ys ≡ take n (xs ++ ys)
take-append_room zero xs ys = refl
take-append_room (suc n) [] ys = let same : suc n - 0 ≡ suc n = omega arith in ap (λ k. take k ys) same
take-append_room (suc n) (x ∷ xs) ys =
    let same : suc n - length (x ∷ take n xs) ≡ n - length (take n xs) = omega arith in
    ap (λ zs. x ∷ zs) (ap (λ k. take n xs ++ take k ys) same ∙ take-append_room n xs ys)

-- what was gone through and what is left, one element on
pub append_onward : {X : Type 0} (all so_far rest : List X) (x : X) (next : List X) → all ≡ so_far ++ rest → rest ≡ x ∷ next
    → all ≡ (so_far ++ x ∷ []) ++ next
append_onward all so_far rest x next from is =
    from ∙ ap (λ ys. so_far ++ ys) is ∙ sym (append_assoc so_far (x ∷ []) next)
