-- A list that begins with another.
use Rattle.std.proofs.Common.{◌≡◌, ℕ, ◌+◌, ◌≤◌, ◌<◌, ◌⊎◌, List, [], ◌++◌, length, take, drop, get_or, slice_get, Some, sym, ap, ◌∙◌, refl, subst, ⊎_elim, inl, inr, append_assoc, append-nil, length-append, take-append-drop, arith}
use Rattle.std.proofs.Math.Seq.{take-append_seam}
use Rattle.std.proofs.Math.ListN.{get_or-append}
use Rattle.std.proofs.lemmas.List.{append_cancel_left, nil_from_length, take-append-le}
use Rattle.std.proofs.lemmas.Option.{slice_get_within, slice_get-get_or, get_or_from_slice_get}
use Rattle.std.proofs.lemmas.Bool.{cases_lt}
use mathlib.Core.List.{IsPrefix}

module _ {A : Type 0} where
  pub IsPrefix-whole : (xs : List A) → IsPrefix xs xs
  IsPrefix-whole xs = ([], append-nil xs)

  pub IsPrefix-none : (xs : List A) → IsPrefix [] xs
  IsPrefix-none xs = (xs, refl)

  pub IsPrefix-append : (xs ys : List A) → IsPrefix xs (xs ++ ys)
  IsPrefix-append xs ys = (ys, refl)

  pub IsPrefix-take : (n : ℕ) (xs : List A) → IsPrefix (take n xs) xs
  IsPrefix-take n xs = (drop n xs, take-append-drop n xs)

  -- a list stays a beginning where the other grows at its end
  pub IsPrefix-longer : (xs ys more : List A) → IsPrefix xs ys → IsPrefix xs (ys ++ more)
  IsPrefix-longer xs ys more p = (p.0 ++ more, sym (append_assoc xs p.0 more) ∙ ap (λ (l : List A). l ++ more) p.1)

  pub IsPrefix-trans : (xs ys zs : List A) → IsPrefix xs ys → IsPrefix ys zs → IsPrefix xs zs
  IsPrefix-trans xs ys zs p q = (p.0 ++ q.0, sym (append_assoc xs p.0 q.0) ∙ ap (λ (l : List A). l ++ q.0) p.1 ∙ q.1)

  -- a beginning of the beginning
  pub IsPrefix-front : (xs more ys : List A) → IsPrefix (xs ++ more) ys → IsPrefix xs ys
  IsPrefix-front xs more ys p = (more ++ p.0, sym (append_assoc xs more p.0) ∙ p.1)

  -- behind a common front
  pub IsPrefix-behind : (front xs ys : List A) → IsPrefix (front ++ xs) (front ++ ys) → IsPrefix xs ys
  IsPrefix-behind front xs ys p = (p.0, append_cancel_left front (xs ++ p.0) ys (sym (append_assoc front xs p.0) ∙ p.1))

  pub IsPrefix-before : (front xs ys : List A) → IsPrefix xs ys → IsPrefix (front ++ xs) (front ++ ys)
  IsPrefix-before front xs ys p = (p.0, append_assoc front xs p.0 ∙ ap (λ (l : List A). front ++ l) p.1)

  pub take-IsPrefix : (xs ys : List A) → IsPrefix xs ys → take (length xs) ys ≡ xs
  take-IsPrefix xs ys p = subst (λ (l : List A). take (length xs) l ≡ xs) p.1 (take-append_seam xs p.0)

  pub IsPrefix-from_take : (xs ys : List A) → take (length xs) ys ≡ xs → IsPrefix xs ys
  IsPrefix-from_take xs ys front = subst (λ (l : List A). IsPrefix l ys) front (IsPrefix-take (length xs) ys)

  pub length-IsPrefix : (xs ys : List A) → IsPrefix xs ys → length xs ≤ length ys
  length-IsPrefix xs ys p = omega (arith, length-append xs p.0, ap length p.1)

  pub get_or-IsPrefix : (xs ys : List A) (k : ℕ) (d : A) → IsPrefix xs ys → k < length xs → get_or ys k d ≡ get_or xs k d
  get_or-IsPrefix xs ys k d p within = subst (λ (l : List A). get_or l k d ≡ get_or xs k d) p.1 (get_or-append xs p.0 d k within)

  pub slice_get-IsPrefix : (xs ys : List A) (k : ℕ) (x : A) → IsPrefix xs ys → slice_get xs k ≡ Some x → slice_get ys k ≡ Some x
  slice_get-IsPrefix xs ys k x p at =
      let within : k < length xs = slice_get_within xs k x at in
      let longer : length xs ≤ length ys = length-IsPrefix xs ys p in
      slice_get-get_or ys k x (omega arith) ∙ ap Some (get_or-IsPrefix xs ys k x p within ∙ get_or_from_slice_get xs k x x at)

  -- of two beginnings of a list the shorter is one of the longer
  pub IsPrefix-shorter : (xs ys zs : List A) → IsPrefix xs zs → IsPrefix ys zs → length xs ≤ length ys → IsPrefix xs ys
  IsPrefix-shorter xs ys zs p q shorter =
      let front : take (length xs) ys ≡ xs =
      sym (take-append-le (length xs) ys q.0 shorter) ∙ ap (λ (l : List A). take (length xs) l) q.1 ∙ take-IsPrefix xs zs p in
      subst (λ (l : List A). IsPrefix l ys) front (IsPrefix-take (length xs) ys)

  pub IsPrefix-either : (xs ys zs : List A) → IsPrefix xs zs → IsPrefix ys zs → IsPrefix xs ys ⊎ IsPrefix ys xs
  IsPrefix-either xs ys zs p q =
      ⊎_elim
      (λ (below : length xs < length ys). inl (IsPrefix-shorter xs ys zs p q (omega arith)))
      (λ (past : length ys ≤ length xs). inr (IsPrefix-shorter ys xs zs q p past))
      (cases_lt (length xs) (length ys))

  -- a beginning that is as long is the whole
  pub IsPrefix-as_long : (xs ys : List A) → IsPrefix xs ys → length ys ≤ length xs → xs ≡ ys
  IsPrefix-as_long xs ys p long =
      let same : xs ++ p.0 ≡ ys = p.1 in
      let none : length p.0 ≡ 0 = omega (arith, length-append xs p.0, ap length p.1) in
      sym (append-nil xs) ∙ ap (λ (l : List A). xs ++ l) (sym (nil_from_length p.0 none)) ∙ same

  -- two splits of a list whose ends are as long are the same split
  pub append-same : (xs ys front behind : List A) → xs ++ front ≡ ys ++ behind → length front ≡ length behind → (xs ≡ ys) × (front ≡ behind)
  append-same xs ys front behind same long =
      let sums : length xs + length front ≡ length ys + length behind = simp length-append at (ap length same) in
      let places : length xs ≡ length ys = omega arith in
      let heads : xs ≡ ys =
      sym (take-append_seam xs front) ∙ ap (λ (l : List A). take (length xs) l) same
      ∙ ap (λ (n : ℕ). take n (ys ++ behind)) places ∙ take-append_seam ys behind in
      (heads, append_cancel_left xs front behind (same ∙ ap (λ (l : List A). l ++ behind) (sym heads)))
