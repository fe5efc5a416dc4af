-- What passes a test: of whole lists, of parts, and seen by a function.
use Rattle.std.proofs.Common.{◌≡◌, ◌⊎◌, Bool, true, false, cond, List, [], ◌∷◌, ◌++◌, map, filter, All, inl, inr, refl, ap, sym, subst, ◌∙◌}
use Rattle.std.proofs.lemmas.Bool.{cases_Bool}
use Rattle.std.proofs.lemmas.List.{map-append}
use Rattle.std.proofs.lemmas.List.Elements.{All-nil, All-cons, All-head, All-tail, filter-append}

-- a test that all pass, that none passes, and that those before a place pass
pub filter_all : {X : Type 0} (p : X → Bool) (xs : List X) → All (λ x. p x ≡ true) xs → filter p xs ≡ xs
filter_all p [] all = refl
filter_all p (x ∷ xs) all =
    ap (λ b. cond b (x ∷ filter p xs) (filter p xs)) (All-head (λ y. p y ≡ true) x xs all)
    ∙ ap (λ ys. x ∷ ys) (filter_all p xs (All-tail (λ y. p y ≡ true) x xs all))

module _ {X : Type 0} (p : X → Bool) (P : X → Type 0) where
  -- what holds of each that passes holds of each that passes behind the first
  pub All-filter_tail : (x : X) (xs : List X) → All P (filter p (x ∷ xs)) → All P (filter p xs)
  All-filter_tail x xs all =
      elim (p x) as (λ b. All P (cond b (x ∷ filter p xs) (filter p xs)) → All P (filter p xs))
      [ true ↦ λ here. All-tail P x (filter p xs) here | false ↦ λ behind. behind ]
      all

  -- and of the first, if it passes
  pub All-filter_head : (x : X) (xs : List X) → All P (filter p (x ∷ xs)) → p x ≡ true → P x
  All-filter_head x xs all passes =
      All-head P x (filter p xs) (subst (λ b. All P (cond b (x ∷ filter p xs) (filter p xs))) passes all)

  -- it is, of each element, that it holds if it passes
  pub All-filter_each : (xs : List X) → All P (filter p xs) → All (λ x. p x ≡ true → P x) xs
  All-filter_each [] all = All-nil (λ x. p x ≡ true → P x)
  All-filter_each (x ∷ xs) all =
      All-cons (λ y. p y ≡ true → P y) x xs (All-filter_head x xs all)
      (All-filter_each xs (All-filter_tail x xs all))

-- a test tells of what is left of an element what the old one told of it, or it is gone and the old one failed
abbrev pub IsTold : Bool → Bool → Bool → Type 0
IsTold stays new old = ((stays ≡ true) × (new ≡ old)) ⊎ ((stays ≡ false) × (old ≡ false))

module _ {X Y : Type 0} (v : X → Y) where
  -- what passes, seen by a function, part by part
  pub map-filter-append : (p : X → Bool) (xs ys : List X)
      → map v (filter p (xs ++ ys)) ≡ map v (filter p xs) ++ map v (filter p ys)
  map-filter-append p xs ys = ap (map v) (filter-append p xs ys) ∙ map-append v (filter p xs) (filter p ys)

  pub map-filter_pass : (p : X → Bool) (x : X) (xs : List X) → p x ≡ true
      → map v (filter p (x ∷ xs)) ≡ v x ∷ map v (filter p xs)
  map-filter_pass p x xs passes = ap (λ b. map v (cond b (x ∷ filter p xs) (filter p xs))) passes

  pub map-filter_fail : (p : X → Bool) (x : X) (xs : List X) → p x ≡ false
      → map v (filter p (x ∷ xs)) ≡ map v (filter p xs)
  map-filter_fail p x xs fails = ap (λ b. map v (cond b (x ∷ filter p xs) (filter p xs))) fails

  -- at an element that passes
  pub map-filter_at : (p : X → Bool) (xs ys : List X) (x : X) → p x ≡ true
      → map v (filter p (xs ++ x ∷ ys)) ≡ map v (filter p xs) ++ v x ∷ map v (filter p ys)
  map-filter_at p xs ys x passes =
      map-filter-append p xs (x ∷ ys) ∙ ap (λ rest. map v (filter p xs) ++ rest) (map-filter_pass p x ys passes)

  -- tests that agree on the elements keep the same ones
  pub map-filter_alike : (p q : X → Bool) (xs : List X) → All (λ x. p x ≡ q x) xs
      → map v (filter p xs) ≡ map v (filter q xs)
  map-filter_alike p q [] alike = refl
  map-filter_alike p q (x ∷ xs) alike =
      let here : p x ≡ q x = All-head (λ y. p y ≡ q y) x xs alike in
      let rest = map-filter_alike p q xs (All-tail (λ y. p y ≡ q y) x xs alike) in
      elim (cases_Bool (p x)) [
        | inl passes ↦
            map-filter_pass p x xs passes ∙ ap (λ ys. v x ∷ ys) rest ∙ sym (map-filter_pass q x xs (sym here ∙ passes))
        | inr fails ↦ map-filter_fail p x xs fails ∙ rest ∙ sym (map-filter_fail q x xs (sym here ∙ fails))
      ]

  -- what passes a test once others are gone and all are changed
  pub map-filter_changed : (p q r : X → Bool) (f : X → X) (xs : List X)
      → ((x : X) → v (f x) ≡ v x)
      → All (λ x. IsTold (q x) (p (f x)) (r x)) xs
      → map v (filter p (map f (filter q xs))) ≡ map v (filter r xs)
  map-filter_changed p q r f [] same each = refl
  map-filter_changed p q r f (x ∷ xs) same each =
      let Each : X → Type 0 = λ y. IsTold (q y) (p (f y)) (r y) in
      let rest = map-filter_changed p q r f xs same (All-tail Each x xs each) in
      let others : List X = filter q xs in
      elim (All-head Each x xs each) [
        | inl (stays, alike) ↦
            ap (λ b. map v (filter p (map f (cond b (x ∷ others) others)))) stays
            ∙ elim (cases_Bool (p (f x))) [
              | inl passes ↦
                  map-filter_pass p (f x) (map f others) passes
                  ∙ ap (λ y. y ∷ map v (filter p (map f others))) (same x)
                  ∙ ap (λ ys. v x ∷ ys) rest
                  ∙ sym (map-filter_pass r x xs (sym alike ∙ passes))
              | inr fails ↦
                  map-filter_fail p (f x) (map f others) fails ∙ rest
                  ∙ sym (map-filter_fail r x xs (sym alike ∙ fails))
            ]
        | inr (goes, fails) ↦
            ap (λ b. map v (filter p (map f (cond b (x ∷ others) others)))) goes
            ∙ rest ∙ sym (map-filter_fail r x xs fails)
      ]
