-- What stands at a place of a list, after a push, a join and a cut.
use Rattle.std.proofs.Common.{◌≡◌, ℕ, zero, suc, ◌+◌, ◌-◌, ◌≤◌, ◌<◌, ◌⊎◌, List, [], ◌∷◌, ◌++◌, Contains, length, get_or, slice_get, take, Some, None, sym, ap, ◌∙◌, refl, subst, inl, inr, ⊎_elim, length-append, length-take, get_or-take, arith}
use Rattle.std.proofs.Math.ListN.{get_or-append}
use Rattle.std.proofs.lemmas.List.{get_or_push}
use Rattle.std.proofs.lemmas.Option.{none-some, slice_get_within, slice_get-get_or, get_or_from_slice_get}
use Rattle.std.proofs.lemmas.Bool.{cases_lt}
use Rattle.tc_lists.proofs.Parts.{nil_or_push}

module _ {X : Type 0} where
  -- what stands at a place stands there too where the list grows at its end
  pub slice_get_longer : (xs more : List X) (k : ℕ) (x : X) → slice_get xs k ≡ Some x → slice_get (xs ++ more) k ≡ Some x
  slice_get_longer xs more k x at =
      let within : k < length xs = slice_get_within xs k x at in
      let longer : k < length (xs ++ more) = omega (arith, length-append xs more) in
      slice_get-get_or (xs ++ more) k x longer ∙ ap Some (get_or-append xs more x k within ∙ get_or_from_slice_get xs k x x at)

  pub slice_get_pushed : (xs : List X) (y : X) → slice_get (xs ++ y ∷ []) (length xs) ≡ Some y
  slice_get_pushed xs y =
      let within : length xs < length (xs ++ y ∷ []) = omega (arith, length-append xs (y ∷ [])) in
      slice_get-get_or (xs ++ y ∷ []) (length xs) y within ∙ ap Some (get_or_push xs y y (length xs) refl)

  -- what stands at a place after a push stood there before, or was pushed
  pub slice_get_push : (xs : List X) (y : X) (k : ℕ) (x : X) → slice_get (xs ++ y ∷ []) k ≡ Some x → ((k < length xs) × (slice_get xs k ≡ Some x)) ⊎ ((k ≡ length xs) × (x ≡ y))
  slice_get_push xs y k x h =
      let at : get_or (xs ++ y ∷ []) k x ≡ x = get_or_from_slice_get (xs ++ y ∷ []) k x x h in
      let within : k < length xs + 1 = simp length-append at (slice_get_within (xs ++ y ∷ []) k x h) in
      ⊎_elim
      (λ (below : k < length xs). inl (below, slice_get-get_or xs k x below ∙ ap Some (sym (get_or-append xs (y ∷ []) x k below) ∙ at)))
      (λ (past : length xs ≤ k). let e : length xs ≡ k = omega arith in inr (sym e, sym at ∙ get_or_push xs y x k e))
      (cases_lt k (length xs))

  -- what stood at a place before the list grew at its end
  pub slice_get_shorter : (xs more : List X) (k : ℕ) (x : X) → k < length xs → slice_get (xs ++ more) k ≡ Some x → slice_get xs k ≡ Some x
  slice_get_shorter [] more k x within at = absurd (omega (arith, within))
  slice_get_shorter (y ∷ ys) more zero x within at = at
  slice_get_shorter (y ∷ ys) more (suc k) x within at = slice_get_shorter ys more k x (omega (arith, within)) at

  -- what stands between two parts
  pub slice_get_seam : (front : List X) (x : X) (back : List X) → slice_get (front ++ x ∷ back) (length front) ≡ Some x
  slice_get_seam [] x back = refl
  slice_get_seam (y ∷ front) x back = slice_get_seam front x back

  -- what stands beside an element that is exchanged
  pub slice_get_beside : (front : List X) (x y : X) (back : List X) (j : ℕ) → (j ≡ length front → ⊥) → slice_get (front ++ x ∷ back) j ≡ slice_get (front ++ y ∷ back) j
  slice_get_beside [] x y back zero other = absurd (other refl)
  slice_get_beside [] x y back (suc j) other = refl
  slice_get_beside (z ∷ front) x y back zero other = refl
  slice_get_beside (z ∷ front) x y back (suc j) other = slice_get_beside front x y back j (λ e. other (ap suc e))

  -- what stands behind a front
  pub slice_get_behind : (xs ys : List X) (j k : ℕ) → j ≡ length xs + k → slice_get (xs ++ ys) j ≡ slice_get ys k
  slice_get_behind [] ys j k at = ap (slice_get ys) (omega (arith, at))
  slice_get_behind (x ∷ xs) ys zero k at = absurd (omega (arith, at))
  slice_get_behind (x ∷ xs) ys (suc j) k at = slice_get_behind xs ys j k (omega (arith, at))

  -- what stands at a place stands there in a front that reaches so far
  pub slice_get-take : (xs : List X) (n k : ℕ) (x : X) → k < n → slice_get xs k ≡ Some x → slice_get (take n xs) k ≡ Some x
  slice_get-take [] n k x before at = absurd (none-some x at)
  slice_get-take (y ∷ ys) zero k x before at = absurd (omega (arith, before))
  slice_get-take (y ∷ ys) (suc n) zero x before at = at
  slice_get-take (y ∷ ys) (suc n) (suc k) x before at = slice_get-take ys n k x (omega (arith, before)) at

  -- what stands at a place is an element, and an element stands at a place
  pub Contains-slice_get : (xs : List X) (k : ℕ) (x : X) → slice_get xs k ≡ Some x → Contains xs x
  Contains-slice_get xs k x at = (k, slice_get_within xs k x at, get_or_from_slice_get xs k x x at)

  pub slice_get-Contains : (xs : List X) (x : X) (has : Contains xs x) → slice_get xs has.0 ≡ Some x
  slice_get-Contains xs x has = slice_get-get_or xs has.0 x has.1 ∙ ap Some has.2

  -- an element of a front is one of a longer front
  pub Contains-take_longer : (xs : List X) (m n : ℕ) (x : X) → m ≤ n → Contains (take m xs) x → Contains (take n xs) x
  Contains-take_longer xs m n x less has =
      let k : ℕ = has.0 in
      let low : k < m = omega (arith, has.1, length-take m xs) in
      let high : k < length xs = omega (arith, has.1, length-take m xs) in (
        k,
        omega (arith, low, high, less, length-take n xs),
        get_or-take n xs k x (omega (arith, low, less)) ∙ sym (get_or-take m xs k x low) ∙ has.2,
      )

  -- the last element, and a list by what stands at its last place
  pub slice_get_last : (xs : List X) (x : X) → slice_get (xs ++ x ∷ []) (length (xs ++ x ∷ []) - 1) ≡ Some x
  slice_get_last xs x =
      let place : length (xs ++ x ∷ []) - 1 ≡ length xs = omega (arith, length-append xs (x ∷ [])) in
      ap (slice_get (xs ++ x ∷ [])) place ∙ slice_get_pushed xs x

  pub push_from_last : (xs : List X) (x : X) → slice_get xs (length xs - 1) ≡ Some x → (front : List X) × (xs ≡ front ++ x ∷ [])
  push_from_last xs x at =
      elim (nil_or_push xs) [
        | inl none ↦
            let nothing : None ≡ Some x = subst (λ ys. slice_get ys (length ys - 1) ≡ Some x) none at in
            absurd (cc)
        | inr (front, top, split) ↦
            let same : Some top ≡ Some x = sym (slice_get_last front top) ∙ ap (λ ys. slice_get ys (length ys - 1)) (sym split) ∙ at in
            let is : top ≡ x = cc in
            (front, split ∙ ap (λ y. front ++ y ∷ []) is)
      ]
