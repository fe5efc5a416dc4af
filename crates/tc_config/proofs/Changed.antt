-- Lists with one element changed.
use Rattle.std.proofs.Common.{◌≡◌, ◌<◌, ◌+◌, ℕ, zero, suc, Some, List, [], ◌∷◌, All, Global, Vec, length, map, set, get_or, slice_get, sum_by, refl, ap, ◌∙◌, arith}
use Rattle.std.proofs.lemmas.List.Elements.{All-cons, All-head, All-nil, All-tail}
use Rattle.std.proofs.lemmas.List.Sums.{sum_by-cons}
use Rattle.std.specs.Vec.{with_items}
use Rattle.tc_lists.proofs.Parts.{take-append_all}
use Rattle.tc_config.specs.Meanings.{changed}

module _ {X : Type 0} (f : X → X) where
  pub changed-set : (xs : List X) (k : ℕ) (d : X) → k < length xs → set xs k (f (get_or xs k d)) ≡ changed k f xs
  changed-set [] k d inside = absurd (omega (arith, inside))
  changed-set (x ∷ xs) zero d inside = refl
  changed-set (x ∷ xs) (suc k) d inside = ap (λ ys. x ∷ ys) (changed-set xs k d (omega arith))

  pub length-changed : (xs : List X) (k : ℕ) → length (changed k f xs) ≡ length xs
  length-changed [] k = refl
  length-changed (x ∷ xs) zero = refl
  length-changed (x ∷ xs) (suc k) = omega (arith, length-changed xs k)

  -- what the change keeps
  pub map-changed : {Y : Type 0} (g : X → Y) (xs : List X) (k : ℕ) → ((x : X) → g (f x) ≡ g x) → map g (changed k f xs) ≡ map g xs
  map-changed g [] k keeps = refl
  map-changed g (x ∷ xs) zero keeps = ap (λ y. y ∷ map g xs) (keeps x)
  map-changed g (x ∷ xs) (suc k) keeps = ap (λ ys. g x ∷ ys) (map-changed g xs k keeps)

  -- what holds of each holds still, where it holds of the one that is changed
  pub All-changed : (P : X → Type 0) (xs : List X) (k : ℕ) → All P xs
      → ((x : X) → slice_get xs k ≡ Some x → P x → P (f x)) → All P (changed k f xs)
  All-changed P [] k all keeps = All-nil P
  All-changed P (x ∷ xs) zero all keeps =
      All-cons P (f x) xs (keeps x refl (All-head P x xs all)) (All-tail P x xs all)
  All-changed P (x ∷ xs) (suc k) all keeps =
      All-cons P x (changed k f xs) (All-head P x xs all) (All-changed P xs k (All-tail P x xs all) keeps)

  -- sums grow by what is added
  pub sum_by-changed : (g : X → ℕ) (n : ℕ) (xs : List X) (k : ℕ) → k < length xs → ((x : X) → g (f x) ≡ g x + n)
      → sum_by g (changed k f xs) ≡ sum_by g xs + n
  sum_by-changed g n [] k inside adds = absurd (omega (arith, inside))
  sum_by-changed g n (x ∷ xs) zero inside adds =
      omega (arith, sum_by-cons g (f x) xs, sum_by-cons g x xs, adds x)
  sum_by-changed g n (x ∷ xs) (suc k) inside adds =
      let rest = sum_by-changed g n xs k (omega arith) adds in
      omega (arith, rest, sum_by-cons g x (changed k f xs), sum_by-cons g x xs)

-- the elements of a vector, written back with one changed
pub refilled-changed : {X : Type 0} (f : X → X) (v : Vec X Global) (ws : List X) (k : ℕ) → ws ≡ changed k f v.items
    → (with_items v ws).items ≡ changed k f v.items
refilled-changed f v ws k same =
    take-append_all ws v.items v.len (ap length same ∙ length-changed f v.items k) v.ok.0 ∙ same
