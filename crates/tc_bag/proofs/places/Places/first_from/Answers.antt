use Rattle.std.proofs.Common.{◌≡◌, ◌≤◌, ◌<◌, List, [], All, drop, sym, subst, ◌∙◌}
use Rattle.std.specs.Option.{IfNone}
use Rattle.tc_bag.specs.declared.slots.Place.{Place}
use Rattle.tc_bag.specs.Slots.{Slot}
use Rattle.tc_bag.specs.Places.{slots_of, AgesRise}
use Rattle.tc_bag.proofs.Gaps.{sliced, none_behind, first_least, first_taken}
use Rattle.tc_bag.proofs.places.Places.first_from.Goals as goal

pub returns-in_err-place-clause-none : goal.returns-in_err-place-clause-none
returns-in_err-place-clause-none c =
    let from = c.args.from in
    let i = c.point_of.result in
    let ps = c.as_slice-places.result.now in
    let rise : AgesRise ps = subst AgesRise (sym c.as_slice-places.ensures.value) c.self.invariant.rise in
    let rows = c.self.inside.rows in
    let none : slots_of rows (drop i ps) ≡ [] = subst (λ (qs : List Place). slots_of rows qs ≡ []) (sliced i ps) (c.in_err-place.ensures rows) in
    let NoneFrom : List Slot → Type 0 = All (λ s. from ≤ s.age → ⊥) in
    subst (λ o. IfNone o (NoneFrom c.args.self.now)) (sym c.from_residual.ensures)
    (subst NoneFrom c.self.view_is
    (subst (λ (qs : List Place). NoneFrom (slots_of rows qs)) c.as_slice-places.ensures.value
    (none_behind rows from i ps rise c.point_of.ensures.inside c.point_of.ensures.point none)))

pub returns-clause-least : goal.returns-clause-least
returns-clause-least c =
    let from = c.args.from in
    let i = c.point_of.result in
    let p = c.in_ok-place.place.now in
    let ps = c.as_slice-places.result.now in
    let rise : AgesRise ps = subst AgesRise (sym c.as_slice-places.ensures.value) c.self.invariant.rise in
    let first = c.in_ok-place.ensures in
    let Least : List Slot → Type 0 = λ ss. (from ≤ p.age) × All (λ s. from ≤ s.age → s.age < p.age → ⊥) ss in
    subst Least c.self.view_is
    (subst (λ (qs : List Place). Least (slots_of c.self.inside.rows qs)) c.as_slice-places.ensures.value
    (first_least c.self.inside.rows from i ps rise c.point_of.ensures.inside c.point_of.ensures.point p first.0 first.1 (sym (sliced i ps) ∙ first.2) (first.3 c.self.inside.rows)))

pub returns-clause-taken : goal.returns-clause-taken
returns-clause-taken c =
    let from = c.args.from in
    let i = c.point_of.result in
    let p = c.in_ok-place.place.now in
    let ps = c.as_slice-places.result.now in
    let rise : AgesRise ps = subst AgesRise (sym c.as_slice-places.ensures.value) c.self.invariant.rise in
    let first = c.in_ok-place.ensures in
    let Taken : List Slot → Type 0 = All (λ s. s.age ≡ p.age → s.taken ≡ p.taken) in
    subst Taken c.self.view_is
    (subst (λ (qs : List Place). Taken (slots_of c.self.inside.rows qs)) c.as_slice-places.ensures.value
    (first_taken c.self.inside.rows from i ps rise c.point_of.ensures.inside c.point_of.ensures.point p first.0 first.1 (sym (sliced i ps) ∙ first.2) (first.3 c.self.inside.rows)))
