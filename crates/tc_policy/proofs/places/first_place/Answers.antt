use Rattle.std.proofs.Common.{◌≡◌, ◌<◌, ◌+◌, true, false, ℕ, List, Contains, take, length, get_or, refl, sym, subst, ◌∙◌, ⊎_elim}
use Rattle.std.proofs.lemmas.List.{get_or_default}
use Rattle.std.proofs.lemmas.List.Elements.{Contains-push_cases}
use Rattle.std.proofs.lemmas.Option.{slice_get_read}
use Rattle.tc_lists.proofs.Parts.{take_read}
use Rattle.tc_policy.specs.Places.{IsFirstAt}
use Rattle.tc_policy.specs.Same.{same_grant, same_grant-Decides}
use Rattle.tc_policy.specs.declared.grants.Grant.{Grant}
use Rattle.tc_policy.proofs.places.first_place.Goals as goal

here : (grants : List Grant) (g d : Grant) (place : ℕ) → place < length grants → (Contains (take place grants) g → ⊥)
    → same_grant (get_or grants place d) g ≡ true → IsFirstAt g grants place
here grants g d place inside none same =
    let is : get_or grants place d ≡ g = (same_grant-Decides (get_or grants place d) g).0 same in
    record {
      stands = slice_get_read grants (length grants) place g refl inside (sym is ∙ get_or_default grants place d g inside);
      first = none;
    }

pub returns-then-eq-clause-first : goal.returns-then-eq-clause-first
returns-then-eq-clause-first c =
    here c.args.grants.now c.args.g _ c.loop-place.place c.loop-place-test.true c.loop-place.invariant
    (sym c.eq.ensures ∙ c.if-eq.true)

behind : (grants : List Grant) (g d : Grant) (place : ℕ) → place < length grants → (Contains (take place grants) g → ⊥)
    → same_grant (get_or grants place d) g ≡ false → Contains (take (place + 1) grants) g → ⊥
behind grants g d place inside none apart has =
    let x : Grant = get_or grants place d in
    let more = take_read grants place x inside (get_or_default grants place d x inside) in
    ⊎_elim none
    (λ same. let never : false ≡ true = sym apart ∙ (same_grant-Decides x g).1 same in cc)
    (Contains-push_cases (take place grants) x g (subst (λ xs. Contains xs g) more has))

pub loop-place-preserved : goal.loop-place-preserved
loop-place-preserved c =
    behind c.args.grants.now c.args.g _ c.loop-place.place c.loop-place-test.true c.loop-place.invariant
    (sym c.eq.ensures ∙ c.if-eq.false)
