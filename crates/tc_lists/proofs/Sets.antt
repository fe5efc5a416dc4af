-- Lists in which one element is replaced, and what stands at the places of a list.
use Rattle.std.proofs.Common.{◌≡◌, ℕ, zero, suc, ◌+◌, ◌<◌, true, false, cond, eqb, List, [], ◌∷◌, ◌++◌, Some, length, get_or, take, drop, map, refl, ap, ◌∙◌, sym, subst, ⊎_elim, add-one, arith}
use Rattle.std.proofs.Math.ListN.{set}
use Rattle.std.proofs.lemmas.Bool.{cases_Bool, eqb-true, eqb-false}
use Rattle.std.proofs.lemmas.List.{get_or-set_same, get_or-set_other, map-set, set_split}
use Rattle.std.specs.List.{slice_get}
use Rattle.std.specs.Option.{option_map}
use Rattle.std.proofs.lemmas.Option.{none-some, same_Some, slice_get-map, slice_get_read, get_or_from_slice_get}
use Rattle.tc_lists.proofs.Options.{option_map_some}
use Rattle.tc_lists.proofs.Parts.{cons_head, cons_tail}

-- what stands at the place then
pub slice_get-set_same : {X : Type 0} (xs : List X) (k : ℕ) (v x : X) → slice_get xs k ≡ Some x → slice_get (set xs k v) k ≡ Some v
slice_get-set_same [] k v x at = absurd (none-some x at)
slice_get-set_same (y ∷ ys) zero v x at = refl
slice_get-set_same (y ∷ ys) (suc k) v x at = slice_get-set_same ys k v x at

-- what stands at another place
pub slice_get-set_other : {X : Type 0} (xs : List X) (k j : ℕ) (v : X) → (j ≡ k → ⊥) → slice_get (set xs k v) j ≡ slice_get xs j
slice_get-set_other [] k j v other = refl
slice_get-set_other (y ∷ ys) zero zero v other = absurd (other refl)
slice_get-set_other (y ∷ ys) zero (suc j) v other = refl
slice_get-set_other (y ∷ ys) (suc k) zero v other = refl
slice_get-set_other (y ∷ ys) (suc k) (suc j) v other = slice_get-set_other ys k j v (λ e. other (ap suc e))

-- a place of a list is one of another as long
pub slice_get-as_long : {X Y : Type 0} (xs : List X) (ys : List Y) (k : ℕ) (x : X) → length ys ≡ length xs → slice_get xs k ≡ Some x → (y : Y) × (slice_get ys k ≡ Some y)
slice_get-as_long [] ys k x same at = absurd (none-some x at)
slice_get-as_long (x ∷ xs) [] k y same at = absurd (omega (arith, same))
slice_get-as_long (x ∷ xs) (y ∷ ys) zero z same at = (y, refl)
slice_get-as_long (x ∷ xs) (y ∷ ys) (suc k) z same at = slice_get-as_long xs ys k z (omega (arith, same)) at

-- the image of what stands at a place stands there in the images
pub slice_get-map_at : {X Y : Type 0} (f : X → Y) (xs : List X) (k : ℕ) (x : X) → slice_get xs k ≡ Some x → slice_get (map f xs) k ≡ Some (f x)
slice_get-map_at f xs k x at = slice_get-map f xs k ∙ ap (option_map f) at

-- the image of what was read stands at its place in the images
pub slice_get-map_read : {X Y : Type 0} (f : X → Y) (xs : List X) (n i : ℕ) (x : X) → i < n → length xs ≡ n
    → x ≡ get_or xs i x → slice_get (map f xs) i ≡ Some (f x)
slice_get-map_read f xs n i x below long is = slice_get-map_at f xs i x (slice_get_read xs n i x (sym long) below is)

-- and is read there, whatever the default
pub get_or-map_at : {X Y : Type 0} (f : X → Y) (xs : List X) (k : ℕ) (x : X) (d : Y) → slice_get xs k ≡ Some x
    → get_or (map f xs) k d ≡ f x
get_or-map_at f xs k x d at = get_or_from_slice_get (map f xs) k (f x) d (slice_get-map_at f xs k x at)

-- where images are the same list, each image of one list's elements is one of the other's
pub map_same-read : {X Y Z : Type 0} (f : X → Z) (g : Y → Z) (xs : List X) (ys : List Y) (i : ℕ) (x : X)
    → map f xs ≡ map g ys → i < length xs → x ≡ get_or xs i x → (y : Y) × (f x ≡ g y)
map_same-read f g [] ys i x same within is = absurd (omega arith)
map_same-read f g (a ∷ xs) [] i x same within is = absurd (cc)
map_same-read f g (a ∷ xs) (b ∷ ys) zero x same within is = (b, ap f is ∙ cons_head same)
map_same-read f g (a ∷ xs) (b ∷ ys) (suc i) x same within is =
    map_same-read f g xs ys i x (cons_tail same) (omega (arith, within)) is

-- what stands at a place of the images is the image of what stands there
pub slice_get-map_from : {X Y : Type 0} (f : X → Y) (xs : List X) (k : ℕ) (y : Y) → slice_get (map f xs) k ≡ Some y → (x : X) × (slice_get xs k ≡ Some x) × (f x ≡ y)
slice_get-map_from f xs k y at = option_map_some f (slice_get xs k) y (sym (slice_get-map f xs k) ∙ at)

-- something stands at each place within a list
pub slice_get_inside : {X : Type 0} (xs : List X) (k : ℕ) → k < length xs → (x : X) × (slice_get xs k ≡ Some x)
slice_get_inside [] k inside = absurd (omega (arith, inside))
slice_get_inside (x ∷ xs) zero inside = (x, refl)
slice_get_inside (x ∷ xs) (suc k) inside = slice_get_inside xs k (omega (arith, inside))

-- the images of a list in which an element is replaced by one that has the same image
pub map-set_like : {X Y : Type 0} (f : X → Y) (xs : List X) (k : ℕ) (x v : X) → slice_get xs k ≡ Some x → f v ≡ f x → map f (set xs k v) ≡ map f xs
map-set_like f [] k x v at same = refl
map-set_like f (y ∷ ys) zero x v at same = ap (λ z. z ∷ map f ys) (same ∙ ap f (sym (same_Some y x at)))
map-set_like f (y ∷ ys) (suc k) x v at same = ap (λ zs. f y ∷ zs) (map-set_like f ys k x v at same)

pub map-set_both : {X Y : Type 0} (f : X → Y) (xs : List X) (k : ℕ) (u v : X) → f u ≡ f v → map f (set xs k u) ≡ map f (set xs k v)
map-set_both f [] k u v same = refl
map-set_both f (y ∷ ys) zero u v same = ap (λ z. z ∷ map f ys) same
map-set_both f (y ∷ ys) (suc k) u v same = ap (λ zs. f y ∷ zs) (map-set_both f ys k u v same)

-- an element that is written where it stands changes nothing
pub set-slice_get : {X : Type 0} (xs : List X) (k : ℕ) (x : X) → slice_get xs k ≡ Some x → set xs k x ≡ xs
set-slice_get [] k x at = absurd (none-some x at)
set-slice_get (y ∷ ys) zero x at = ap (λ z. z ∷ ys) (sym (same_Some y x at))
set-slice_get (y ∷ ys) (suc k) x at = ap (λ zs. y ∷ zs) (set-slice_get ys k x at)

-- a list round the element that was set
pub set_parts : {X : Type 0} (xs : List X) (i : ℕ) (y : X) → i < length xs → set xs i y ≡ take i xs ++ y ∷ drop (i + 1) xs
set_parts xs i y inside = set_split xs i y inside ∙ ap (λ n. take i xs ++ y ∷ drop n xs) (sym (add-one i))

-- what is read at any place, where one element is set
pub get_or-set_cases : {X : Type 0} (xs : List X) (i j : ℕ) (x d : X) → i < length xs
    → get_or (set xs i x) j d ≡ cond (eqb i j) x (get_or xs j d)
get_or-set_cases xs i j x d inside =
    ⊎_elim
    (λ (own : eqb i j ≡ true).
    subst (λ k. get_or (set xs i x) k d ≡ x) (eqb-true i j own) (get_or-set_same xs i x d inside)
    ∙ ap (λ b. cond b x (get_or xs j d)) (sym own))
    (λ (other : eqb i j ≡ false).
    get_or-set_other xs i j x d (λ same. eqb-false i j other (sym same)) ∙ ap (λ b. cond b x (get_or xs j d)) (sym other))
    (cases_Bool (eqb i j))

-- what is read of the images, where one element is set
module _ {X Y : Type 0} (f : X → Y) where
  pub get_or-map_set_other : (xs : List X) (i k : ℕ) (v : X) (d : Y) → (k ≡ i → ⊥)
      → get_or (map f (set xs i v)) k d ≡ get_or (map f xs) k d
  get_or-map_set_other xs i k v d other =
      ap (λ ys. get_or ys k d) (map-set f xs i v) ∙ get_or-set_other (map f xs) i k (f v) d other

  -- what holds between each and itself, and between the old image and the new one, holds at each place
  pub get_or-map_set : (R : Y → Y → Type 0) → ((y : Y) → R y y) → (xs : List X) (i : ℕ) (x v : X) (d : Y)
      → slice_get xs i ≡ Some x → R (f x) (f v) → (k : ℕ) → R (get_or (map f xs) k d) (get_or (map f (set xs i v)) k d)
  get_or-map_set R same [] i x v d at goes k = absurd (none-some x at)
  get_or-map_set R same (y ∷ xs) zero x v d at goes zero = subst (λ z. R (f z) (f v)) (sym (same_Some y x at)) goes
  get_or-map_set R same (y ∷ xs) zero x v d at goes (suc k) = same (get_or (map f xs) k d)
  get_or-map_set R same (y ∷ xs) (suc i) x v d at goes zero = same (f y)
  get_or-map_set R same (y ∷ xs) (suc i) x v d at goes (suc k) = get_or-map_set R same xs i x v d at goes k
