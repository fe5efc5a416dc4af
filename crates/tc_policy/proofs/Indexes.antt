-- Indexes of grants: where a grant is appended, and where the first of some is removed.
use Rattle.std.proofs.Common.{◌≡◌, ◌<◌, ℕ, true, false, if◌then◌else◌, Option, Some, None, is_some, List, [], ◌∷◌, ◌++◌, length, remove, Contains, inl, inr, refl, sym, ap, ◌∙◌, subst}
use Rattle.std.specs.Option.{option_map}
use Rattle.std.proofs.lemmas.Option.{slice_get_within, get_or_from_slice_get, same_Some}
use Rattle.tc_lists.proofs.Options.{none_from_is_some}
use Rattle.tc_policy.specs.Places.{IsFirstAt, IsIndex, IsWithoutFirst, first_place, lowered}
use Rattle.tc_policy.specs.Same.{same_grant}
use Rattle.tc_policy.specs.declared.grants.Grant.{Grant}
use Rattle.tc_policy.proofs.FirstPlaces.{same_tells, first_place-from, first_place-is, first_place-none, first_place-push_known, first_place-push_new, first_place-remove}

-- another grant keeps its place, or has none still
push_other : (g h : Grant) (grants : List Grant) (o : Option ℕ) → first_place h grants ≡ o → same_grant g h ≡ false
    → o ≡ first_place h (grants ++ g ∷ [])
push_other g h grants (Some k) at apart = sym (first_place-push_known h g grants k at)
push_other g h grants None at apart =
    sym (first_place-push_new h g grants at ∙ ap (λ b. if b then Some (length grants) else None) apart)

-- a grant that had no place is put at the end
pub index-noted : (p q : Grant → Option ℕ) (grants : List Grant) (g : Grant) (place : ℕ) → is_some (p g) ≡ false
    → ((h : Grant) → q h ≡ (if same_grant g h then Some place else p h)) → length grants ≡ place → IsIndex p grants
    → IsIndex q (grants ++ g ∷ [])
index-noted p q grants g place none put end index h =
    elim (same_tells g h) [
      | inl same ↦
          let absent : first_place h grants ≡ None =
          sym (index h) ∙ ap p (sym same.1) ∙ none_from_is_some (p g) none in
          put h ∙ ap (λ b. if b then Some place else p h) same.0 ∙ ap Some (sym end)
          ∙ sym (first_place-push_new h g grants absent ∙ ap (λ b. if b then Some (length grants) else None) same.0)
      | inr other ↦
          put h ∙ ap (λ b. if b then Some place else p h) other.0
          ∙ push_other g h grants (p h) (sym (index h)) other.0
    ]

-- one that has a place stands before
pub index-kept : (p : Grant → Option ℕ) (grants : List Grant) (g : Grant) → is_some (p g) ≡ true → IsIndex p grants
    → IsIndex p (grants ++ g ∷ [])
index-kept p grants g some index h =
    elim (same_tells g h) [
      | inl same ↦ known (p h) (sym (index h)) (ap (λ (x : Grant). is_some (p x)) (sym same.1) ∙ some)
      | inr other ↦ push_other g h grants (p h) (sym (index h)) other.0
    ]
  where
    known : (o : Option ℕ) → first_place h grants ≡ o → is_some o ≡ true → o ≡ first_place h (grants ++ g ∷ [])
    known (Some k) at has = sym (first_place-push_known h g grants k at)
    known None at has = absurd (cc)

-- the first of some is removed: it has the place that it has now, and those behind it move down
pub index-forgotten : (p m q : Grant → Option ℕ) (old new : List Grant) (g : Grant) (place : ℕ) (o : Option ℕ)
    → p g ≡ Some place → first_place g new ≡ o
    → ((h : Grant) → m h ≡ option_map (lowered place) (p h)) → ((h : Grant) → q h ≡ (if same_grant g h then o else m h))
    → new ≡ remove old place → IsIndex p old → IsIndex q new
index-forgotten p m q old new g place o there now moved put left index h =
    elim (same_tells g h) [
      | inl same ↦
          put h ∙ ap (λ b. if b then o else m h) same.0 ∙ sym now ∙ ap (λ (x : Grant). first_place x new) same.1
      | inr other ↦
          put h ∙ ap (λ b. if b then o else m h) other.0 ∙ moved h ∙ ap (option_map (lowered place)) (index h)
          ∙ sym (first_place-remove h g old place (sym (index g) ∙ there) other.0) ∙ ap (first_place h) (sym left)
    ]

-- what an index tells of the list
pub index-first : (p : Grant → Option ℕ) (items grants : List Grant) (g : Grant) (place : ℕ) → IsIndex p items
    → items ≡ grants → p g ≡ Some place → IsFirstAt g grants place
index-first p items grants g place index same at =
    subst (λ xs. IsFirstAt g xs place) same (first_place-is g items place (sym (index g) ∙ at))

pub index-none : (p : Grant → Option ℕ) (items grants : List Grant) (g : Grant) → IsIndex p items → items ≡ grants
    → p g ≡ None → Contains grants g → ⊥
index-none p items grants g index same at =
    subst (λ xs. Contains xs g → ⊥) same (first_place-none g items (sym (index g) ∙ at))

pub index-within : (p : Grant → Option ℕ) (items : List Grant) (g : Grant) (place : ℕ) → IsIndex p items
    → p g ≡ Some place → place < length items
index-within p items g place index at =
    slice_get_within items place g (first_place-is g items place (sym (index g) ∙ at)).stands

contains_first : (g : Grant) (grants : List Grant) (place : ℕ) → IsFirstAt g grants place → Contains grants g
contains_first g grants place first =
    (place, slice_get_within grants place g first.stands, get_or_from_slice_get grants place g g first.stands)

-- the list without the first of some
pub without-none : (g : Grant) (grants : List Grant) → (Contains grants g → ⊥) → IsWithoutFirst g grants grants
without-none g grants none =
    record { removed = λ place first. absurd (none (contains_first g grants place first)); same = λ _. refl }

pub without-first : (g : Grant) (items old new : List Grant) (place : ℕ) → items ≡ old → IsFirstAt g old place
    → new ≡ remove items place → IsWithoutFirst g old new
without-first g items old new place same first left = record {
  removed = λ other there.
      let here : place ≡ other =
      same_Some place other (sym (first_place-from g old place first) ∙ first_place-from g old other there) in
      left ∙ ap (λ xs. remove xs place) same ∙ ap (remove old) here;
  same = λ none. absurd (none (contains_first g old place first));
}
