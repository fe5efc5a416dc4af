use Rattle.std.proofs.Common.{◌≡◌, ◌<◌, ◌+◌, true, false, ℕ, List, Some, Contains, slice_get, take, length, get_or, refl, sym, subst, ◌∙◌, ⊎_elim}
use Rattle.std.specs.Str.{bytes_eq}
use Rattle.std.proofs.lemmas.List.Elements.{Contains-push_cases}
use Rattle.std.proofs.lemmas.Option.{slice_get_read}
use Rattle.std.proofs.lemmas.Slice.Eq.{bytes_eq-Decides}
use Rattle.tc_lists.proofs.Parts.{take_read}
use Rattle.tc_site.proofs.judging.place_of.Goals as goal

here : (names : List (List ℕ)) (name x : List ℕ) (place : ℕ) → place < length names → x ≡ get_or names place x → bytes_eq x name ≡ true
    → slice_get names place ≡ Some name
here names name x place inside read same =
    subst (λ y. slice_get names place ≡ Some y) ((bytes_eq-Decides x name).0 same)
    (slice_get_read names (length names) place x refl inside read)

pub returns-then-eq-clause-some : goal.returns-then-eq-clause-some
returns-then-eq-clause-some c =
    here c.args.names.now c.args.name.now c.index-names-place.result c.loop-place.place c.loop-place-test.true c.index-names-place.is
    (sym c.eq.ensures ∙ c.if-eq.true)

behind : (names : List (List ℕ)) (name x : List ℕ) (place : ℕ) → place < length names → x ≡ get_or names place x → (Contains (take place names) name → ⊥)
    → bytes_eq x name ≡ false → Contains (take (place + 1) names) name → ⊥
behind names name x place inside read none apart has =
    ⊎_elim none
    (λ same. let never : false ≡ true = sym apart ∙ (bytes_eq-Decides x name).1 same in cc)
    (Contains-push_cases (take place names) x name (subst (λ xs. Contains xs name) (take_read names place x inside read) has))

pub loop-place-preserved : goal.loop-place-preserved
loop-place-preserved c =
    behind c.args.names.now c.args.name.now c.index-names-place.result c.loop-place.place c.loop-place-test.true c.index-names-place.is
    c.loop-place.invariant (sym c.eq.ensures ∙ c.if-eq.false)
