use Rattle.std.proofs.Common.{◌≡◌, ◌-◌, Some, All, Contains, length, slice_get, refl, sym, subst, ◌∙◌}
use Rattle.std.proofs.lemmas.List.Elements.{All-take, All-contains_itself}
use Rattle.tc_lists.proofs.Options.{none_from_is_some}
use Rattle.tc_bag.specs.Places.{row_in}
use Rattle.tc_bag.proofs.Gaps.{ends-read, popped}
use Rattle.tc_bag.proofs.places.trim.Goals as goal

pub loop-place-init : goal.loop-place-init
loop-place-init c = (λ rows. refl, c.requires, All-contains_itself c.args.places.now.items)

pub returns-then-is_filled-clause-ends : goal.returns-then-is_filled-clause-ends
returns-then-is_filled-clause-ends c =
    let ps = c.loop-place.places.items in
    let p = c.in-Some.place.now in
    let read : slice_get ps (length ps - 1) ≡ Some p =
    subst (λ qs. slice_get qs (length qs - 1) ≡ Some p) c.deref.ensures.value (sym c.in-Some.ensures.value) in
    ends-read ps p read (sym c.if-is_filled.ensures)

pub loop-place-preserved : goal.loop-place-preserved
loop-place-preserved c =
    let places = c.loop-place.places in
    let ps = places.items in
    let p = c.in-Some.place.now in
    let all = c.args.places.now.items in
    let read : slice_get ps (length ps - 1) ≡ Some p =
    subst (λ qs. slice_get qs (length qs - 1) ≡ Some p) c.deref.ensures.value (sym c.in-Some.ensures.value) in
    let left = popped ps c.pop-gap.new.self.items p places.len read places.ok.0 c.pop-gap.ensures.rest
    (none_from_is_some (row_in p) (sym c.if-is_filled.ensures)) c.loop-place.invariant.1 in (
      λ rows. left.0 rows ∙ c.loop-place.invariant.0 rows,
      left.1,
      subst (All (Contains all)) (sym c.pop-gap.ensures.rest) (All-take (Contains all) (places.len - 1) ps c.loop-place.invariant.2),
    )
