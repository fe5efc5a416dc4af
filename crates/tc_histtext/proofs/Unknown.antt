-- Names that differ, one behind another.
use Rattle.std.proofs.Common.{◌≡◌, ◌≢◌, ◌<◌, ℕ, Option, Some, None, List, length, get_or, take, AllPairs, refl, sym, arith, ◌∙◌}
use Rattle.std.specs.Str.{bytes_eq}
use Rattle.std.proofs.lemmas.List.{get_or-take, length-take}
use Rattle.std.proofs.lemmas.List.Quantifiers.{position-Some}
use Rattle.std.proofs.lemmas.Slice.Eq.{bytes_eq-Decides}
use Rattle.tc_names.specs.Names.{place_of}

-- a name is none of those before it
pub not_before : (names : List (List ℕ)) (name : List ℕ) (i : ℕ) → AllPairs ◌≢◌ names → i < length names → name ≡ get_or names i name → place_of (take i names) name ≡ None
not_before names name i differ inside is = by (place_of (take i names) name) refl
  where
    by : (o : Option ℕ) → place_of (take i names) name ≡ o → o ≡ None
    by None e = refl
    by (Some k) e =
        let at = position-Some (bytes_eq name) (take i names) k name e in
        let before : k < i = omega (arith, at.0, length-take i names) in
        absurd (
        differ k i name before inside
        (sym (get_or-take i names k name before) ∙ (sym ((bytes_eq-Decides name (get_or (take i names) k name)).0 at.1) ∙ is)))
