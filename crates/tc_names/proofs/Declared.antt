-- Names in order, and one more.
use Rattle.std.proofs.Common.{◌≡◌, ◌≢◌, ◌<◌, ℕ, true, false, Option, Some, None, List, [], ◌∷◌, ◌++◌, All, AllPairs, if◌then◌else◌, length, get_or, refl, sym, ap, arith, ◌∙◌}
use Rattle.std.specs.Str.{bytes_eq}
use Rattle.std.proofs.lemmas.List.Folds.{list_any_none}
use Rattle.std.proofs.lemmas.List.Quantifiers.{all_pairs_push, position-Some}
use Rattle.std.proofs.lemmas.Slice.Eq.{bytes_eq-Decides}
use Rattle.tc_lists.proofs.Positions.{position_none}
use Rattle.indexmap.specs.IndexSet.{insert_key}
use Rattle.tc_names.specs.Names.{place_of}

-- a name that isn't there is none of those that are
pub unknown-differs : (names : List (List ℕ)) (name : List ℕ) → place_of names name ≡ None → All (λ m. m ≢ name) names
unknown-differs names name none k d inside same =
    let never : false ≡ true =
    sym (position_none (bytes_eq name) names none k d inside) ∙ (bytes_eq-Decides name (get_or names k d)).1 (sym same) in
    cc

pub insert_key-unknown : (names : List (List ℕ)) (name : List ℕ) → place_of names name ≡ None
    → insert_key bytes_eq names name ≡ names ++ name ∷ []
insert_key-unknown names name none =
    ap (λ b. if b then names else names ++ name ∷ [])
    (list_any_none (bytes_eq name) names (position_none (bytes_eq name) names none))

-- so names still differ with it
pub differ-push : (names : List (List ℕ)) (name : List ℕ) → AllPairs ◌≢◌ names → place_of names name ≡ None
    → AllPairs ◌≢◌ (names ++ name ∷ [])
differ-push names name differ none = all_pairs_push ◌≢◌ names name differ (unknown-differs names name none)

-- a name's place is one
pub place-within : (names : List (List ℕ)) (name : List ℕ) (k : ℕ) → place_of names name ≡ Some k → k < length names
place-within names name k at = (position-Some (bytes_eq name) names k [] at).0

-- the name at a place is found there
pub place-name : (names : List (List ℕ)) (name : List ℕ) (k : ℕ) → place_of names name ≡ Some k → get_or names k [] ≡ name
place-name names name k at = sym ((bytes_eq-Decides name (get_or names k [])).0 (position-Some (bytes_eq name) names k [] at).1)

-- where names differ, each is found at its own place
pub place-own : (names : List (List ℕ)) (k : ℕ) → AllPairs ◌≢◌ names → k < length names → place_of names (get_or names k []) ≡ Some k
place-own names k differ inside = by (place_of names (get_or names k [])) refl
  where
    by : (found : Option ℕ) → place_of names (get_or names k []) ≡ found → found ≡ Some k
    by None e = absurd (unknown-differs names (get_or names k []) e k [] inside refl)
    by (Some i) e =
        let same : get_or names i [] ≡ get_or names k [] = place-name names (get_or names k []) i e in
        let within : i < length names = place-within names (get_or names k []) i e in
        let before_not : (i < k) → ⊥ = λ less. differ i k [] less inside same in
        let behind_not : (k < i) → ⊥ = λ less. differ k i [] less within (sym same) in
        ap Some (omega (arith, before_not, behind_not))
