-- Two lists, place by place.
use Rattle.std.proofs.Common.{◌≡◌, ℕ, zero, suc, Bool, false, ◌&&◌, List, [], ◌∷◌, ◌++◌, length, slice_get, Some, refl, ap, ◌∙◌, subst, arith}
use Rattle.std.specs.Cmp.Lexicographic.{pointwise}
use Rattle.std.specs.List.{AllZip}
use Rattle.std.proofs.Math.Bool.{and-false}
use Rattle.std.proofs.lemmas.Option.{none-some, same_Some}

-- what stands in the second list is related to what stands in the first
pub AllZip-slice_get : {X Y : Type 0} (R : X → Y → Type 0) (xs : List X) (ys : List Y) (k : ℕ) (y : Y) → AllZip R xs ys
    → slice_get ys k ≡ Some y → (x : X) × (slice_get xs k ≡ Some x) × R x y
AllZip-slice_get R [] [] k y zip at = absurd (none-some y at)
AllZip-slice_get R [] (v ∷ ys) k y zip at = absurd zip
AllZip-slice_get R (u ∷ xs) [] k y zip at = absurd zip
AllZip-slice_get R (u ∷ xs) (v ∷ ys) zero y zip at = (u, refl, subst (R u) (same_Some v y at) zip.0)
AllZip-slice_get R (u ∷ xs) (v ∷ ys) (suc k) y zip at = AllZip-slice_get R xs ys k y zip.1 at

pub length-AllZip : {X Y : Type 0} (R : X → Y → Type 0) (xs : List X) (ys : List Y) → AllZip R xs ys → length xs ≡ length ys
length-AllZip R [] [] zip = refl
length-AllZip R [] (v ∷ ys) zip = absurd zip
length-AllZip R (u ∷ xs) [] zip = absurd zip
length-AllZip R (u ∷ xs) (v ∷ ys) zip = ap suc (length-AllZip R xs ys zip.1)

-- what holds at each place holds with one element more in each list
pub slice_get-push_both : {X Y : Type 0} (P : X → Y → Type 0) (xs : List X) (ys : List Y) (x : X) (y : Y) → length ys ≡ length xs
    → ((k : ℕ) (a : X) (b : Y) → slice_get xs k ≡ Some a → slice_get ys k ≡ Some b → P a b) → P x y
    → (k : ℕ) (a : X) (b : Y) → slice_get (xs ++ x ∷ []) k ≡ Some a → slice_get (ys ++ y ∷ []) k ≡ Some b → P a b
slice_get-push_both P [] [] x y same each last zero a b at there =
    subst (λ u. P u b) (same_Some x a at) (subst (λ v. P x v) (same_Some y b there) last)
slice_get-push_both P [] [] x y same each last (suc k) a b at there = absurd (none-some a at)
slice_get-push_both P [] (v ∷ ys) x y same each last k a b at there = absurd (omega (arith, same))
slice_get-push_both P (u ∷ xs) [] x y same each last k a b at there = absurd (omega (arith, same))
slice_get-push_both P (u ∷ xs) (v ∷ ys) x y same each last zero a b at there = each zero a b at there
slice_get-push_both P (u ∷ xs) (v ∷ ys) x y same each last (suc k) a b at there =
    slice_get-push_both P xs ys x y (omega (arith, same)) (λ j. each (suc j)) last k a b at there

-- lists of different lengths aren't equal at each place
pub pointwise-length : {X : Type 0} (same : X → X → Bool) (xs ys : List X) → (length xs ≡ length ys → ⊥)
    → pointwise same xs ys ≡ false
pointwise-length same [] [] differ = absurd (differ refl)
pointwise-length same [] (y ∷ ys) differ = refl
pointwise-length same (x ∷ xs) [] differ = refl
pointwise-length same (x ∷ xs) (y ∷ ys) differ =
    ap (λ rest. same x y && rest) (pointwise-length same xs ys (λ e. differ (ap suc e))) ∙ and-false (same x y)
