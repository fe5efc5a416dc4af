-- The first element of a list that has a property, and lists of which none has it.
use Rattle.std.proofs.Common.{◌≡◌, List, [], ◌∷◌, ◌++◌, All, Contains, get_or, zero, suc, ⊎_elim, arith, refl, sym, subst, ap}
use Rattle.std.proofs.lemmas.List.Elements.{All-nil, All-cons, All-contains, Contains-get_or, Contains-append_right, Contains-append_cases}
use Rattle.tc_lists.specs.Firsts.{NoneOf, IsFirst}

pub NoneOf-nil : {X : Type 0} (P : X → Type 0) → NoneOf P []
NoneOf-nil P x inside has = absurd (omega (arith, inside.1))

pub IsFirst-contains : {X : Type 0} (P : X → Type 0) (xs : List X) (x : X) → IsFirst P xs x → Contains xs x
IsFirst-contains P xs x first =
    subst (λ ys. Contains ys x) (sym first.split)
    (Contains-append_right first.before (x ∷ first.behind) x (0, omega arith, refl))

only-one : {X : Type 0} (x y : X) → Contains (x ∷ []) y → y ≡ x
only-one x y (zero, within, is) = sym is
only-one x y (suc k, within, is) = absurd (omega (arith, within))

pub NoneOf-push : {X : Type 0} (P : X → Type 0) (xs : List X) (x : X)
    → NoneOf P xs → (P x → ⊥) → NoneOf P (xs ++ x ∷ [])
NoneOf-push P xs x none never y inside has =
    ⊎_elim (λ within. none y within has) (λ last. never (subst P (only-one x y last) has))
    (Contains-append_cases xs (x ∷ []) y inside)

pub NoneOf-from_All : {X : Type 0} (P : X → Type 0) (xs : List X) → All (λ x. P x → ⊥) xs → NoneOf P xs
NoneOf-from_All P xs all = λ x inside has. All-contains (λ y. P y → ⊥) xs x all inside has

pub All-from_NoneOf : {X : Type 0} (P : X → Type 0) (xs : List X) → NoneOf P xs → All (λ x. P x → ⊥) xs
All-from_NoneOf P xs none = λ k d inside has. none (get_or xs k d) (Contains-get_or xs k d inside) has

-- where no element is the first with a property, none has it
pub none_first : {X : Type 0} (P : X → Type 0) (xs : List X) → ((x : X) → IsFirst P xs x → ⊥) → All (λ x. P x → ⊥) xs
none_first P [] none = All-nil (λ x. P x → ⊥)
none_first P (x ∷ xs) none =
    let never : P x → ⊥ = λ has. none x (record { before = []; behind = xs; split = refl; has = has; none = NoneOf-nil P }) in
    All-cons (λ y. P y → ⊥) x xs never
    (none_first P xs (λ y first. none y (record {
      before = x ∷ first.before;
      behind = first.behind;
      split = ap (λ ys. x ∷ ys) first.split;
      has = first.has;
      none = NoneOf-from_All P (x ∷ first.before)
          (All-cons (λ z. P z → ⊥) x first.before never (All-from_NoneOf P first.before first.none));
    })))
