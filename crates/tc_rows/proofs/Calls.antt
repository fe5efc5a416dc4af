-- The entries that an agent made in a history, place by place.
use Rattle.std.proofs.Common.{◌≡◌, ℕ, suc, Bool, true, false, cond, List, [], ◌∷◌, All, Some}
use Rattle.std.proofs.Common.{slice_get, refl, sym, subst, ap, ⊎_elim}
use Rattle.std.specs.List.{filter}
use Rattle.std.proofs.lemmas.Bool.{cases_Bool}
use Rattle.std.proofs.lemmas.List.Elements.{All-nil, All-cons}
use Rattle.tc_lists.proofs.Elements.{All-slice_get}
use Rattle.tc_lists.proofs.Filters.{All-filter_each}

-- what holds of each that passes holds of all that are kept
pub All-filter_from : {X : Type 0} (p : X → Bool) (P : X → Type 0) (xs : List X)
    → ((k : ℕ) (x : X) → slice_get xs k ≡ Some x → p x ≡ true → P x) → All P (filter p xs)
All-filter_from p P [] each = All-nil P
All-filter_from p P (x ∷ xs) each =
    let rest : All P (filter p xs) = All-filter_from p P xs (λ k y at passes. each (suc k) y at passes) in
    ⊎_elim
    (λ (passes : p x ≡ true).
    subst (All P) (sym (ap (λ b. cond b (x ∷ filter p xs) (filter p xs)) passes))
    (All-cons P x (filter p xs) (each 0 x refl passes) rest))
    (λ (fails : p x ≡ false).
    subst (All P) (sym (ap (λ b. cond b (x ∷ filter p xs) (filter p xs)) fails)) rest)
    (cases_Bool (p x))

-- and what holds of all that are kept holds of each that passes
pub All-filter_at : {X : Type 0} (p : X → Bool) (P : X → Type 0) (xs : List X) (k : ℕ) (x : X)
    → All P (filter p xs) → slice_get xs k ≡ Some x → p x ≡ true → P x
All-filter_at p P xs k x all at =
    All-slice_get (λ y. p y ≡ true → P y) xs k x (All-filter_each p P xs all) at
