-- What holds of each element: of parts of a list, and of a list turned round, mapped or shortened.
use Rattle.std.proofs.Common.{◌≡◌, ℕ, suc, ◌+◌, ◌<◌, ◌≤◌, List, [], ◌∷◌, ◌++◌, All, Some, length, get_or, slice_get, take, drop, map, remove, reverse, length-take, length-drop, get_or-take, get_or-drop, take_all, sym, subst, refl, arith}
use Rattle.std.specs.List.{AllWithin}
use Rattle.std.proofs.Math.Seq.{take-append_seam, drop-append_seam}
use Rattle.std.proofs.lemmas.List.{reverse-append}
use Rattle.std.proofs.lemmas.List.Elements.{All-nil, All-cons, All-head, All-tail, All-append, All-push, All-pop, All-take, All-drop}
use Rattle.std.proofs.lemmas.Option.{slice_get_within, get_or_from_slice_get}
use Rattle.tc_lists.proofs.Parts.{drop-popped, take_read}

module _ {X : Type 0} (P : X → Type 0) where
  pub All-append_left : (xs ys : List X) → All P (xs ++ ys) → All P xs
  All-append_left xs ys all = subst (All P) (take-append_seam xs ys) (All-take P (length xs) (xs ++ ys) all)

  pub All-append_right : (xs ys : List X) → All P (xs ++ ys) → All P ys
  All-append_right xs ys all = subst (All P) (drop-append_seam xs ys) (All-drop P (length xs) (xs ++ ys) all)

  pub All-last : (xs : List X) (x : X) → All P (xs ++ x ∷ []) → P x
  All-last xs x all = (All-pop P (xs ++ x ∷ []) xs (Some x) refl all).1

  -- what stands at a place
  pub All-slice_get : (xs : List X) (i : ℕ) (x : X) → All P xs → slice_get xs i ≡ Some x → P x
  All-slice_get xs i x all at =
      subst P (get_or_from_slice_get xs i x x at) (all i x (slice_get_within xs i x at))

  pub All-from_slice_get : (xs : List X) → ((k : ℕ) (x : X) → slice_get xs k ≡ Some x → P x) → All P xs
  All-from_slice_get [] each = All-nil P
  All-from_slice_get (x ∷ xs) each = All-cons P x xs (each 0 x refl) (All-from_slice_get xs (λ k. each (suc k)))

  -- one more element, once it was read; and when all are read
  pub All-take_read : (xs : List X) (i : ℕ) (x : X) → i < length xs → x ≡ get_or xs i x
      → All P (take i xs) → P x → All P (take (i + 1) xs)
  All-take_read xs i x inside at all has =
      subst (All P) (sym (take_read xs i x inside at)) (All-push P (take i xs) x all has)

  pub All-from_take : (xs : List X) (i : ℕ) → length xs ≤ i → All P (take i xs) → All P xs
  All-from_take xs i past all = subst (All P) (take_all i xs past) all

  -- between what holds within bounds, and of parts
  pub All-take_within : (xs : List X) (i : ℕ) → AllWithin P xs 0 i → All P (take i xs)
  All-take_within xs i within k d inside =
      let below : k < i = omega (arith, inside, length-take i xs) in
      subst P (sym (get_or-take i xs k d below)) (within k d (omega arith) below)

  pub All-drop_within : (xs : List X) (i : ℕ) → AllWithin P xs i (length xs) → All P (drop i xs)
  All-drop_within xs i within k d inside =
      subst P (sym (get_or-drop i xs k d))
      (within (i + k) d (omega arith) (omega (arith, inside, length-drop i xs)))

  pub All-remove : (xs : List X) (n : ℕ) → All P xs → All P (remove xs n)
  All-remove xs n all =
      All-append P (take n xs) (drop (suc n) xs) (All-take P n xs all) (All-drop P (suc n) xs all)

  -- what a pop leaves behind a place, and what it gave
  pub All-drop_popped : (xs rest : List X) (x : X) (i : ℕ) → xs ≡ rest ++ x ∷ [] → i ≤ length rest
      → All P (drop i xs) → All P (drop i rest) × P x
  All-drop_popped xs rest x i split within all =
      All-pop P (drop i rest ++ x ∷ []) (drop i rest) (Some x) refl
      (subst (All P) (drop-popped xs rest x i split within) all)

  pub All-reverse : (xs : List X) → All P xs → All P (reverse xs)
  All-reverse [] all = all
  All-reverse (x ∷ xs) all =
      subst (All P) (sym (reverse-append (x ∷ []) xs))
      (All-push P (reverse xs) x (All-reverse xs (All-tail P x xs all)) (All-head P x xs all))

-- what holds of the images
pub All-from_map : {X Y : Type 0} (P : Y → Type 0) (f : X → Y) (xs : List X) → All P (map f xs) → All (λ x. P (f x)) xs
All-from_map P f [] all = All-nil (λ x. P (f x))
All-from_map P f (x ∷ xs) all =
    All-cons (λ y. P (f y)) x xs (All-head P (f x) (map f xs) all)
    (All-from_map P f xs (All-tail P (f x) (map f xs) all))
