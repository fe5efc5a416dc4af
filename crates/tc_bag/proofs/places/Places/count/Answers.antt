use Rattle.std.proofs.Common.{◌≡◌, All, length, filter, drop, ap, sym, subst, ◌∙◌, arith}
use Rattle.std.proofs.lemmas.List.{drop_all}
use Rattle.tc_bag.specs.Places.{slots_of, HasTuple}
use Rattle.tc_bag.specs.Slots.{is_there}
use Rattle.tc_bag.proofs.Walks.{is_row_there, count_rows}
use Rattle.tc_bag.proofs.places.Places.count.Goals as goal

pub returns : goal.returns
returns c =
    let rows = c.self.inside.rows in
    let ps = c.as_slice-place-items.result.now in
    let i = c.loop-place.place-index in
    let none : length (filter is_row_there (drop i ps)) ≡ 0 =
    ap (λ qs. length (filter is_row_there qs)) (drop_all i ps (omega (arith, c.loop-place-test.false))) in
    let full = subst (All (HasTuple rows)) (sym c.as_slice-place-items.ensures.value) c.self.invariant.full in
    let all : c.loop-place.count ≡ length (filter is_row_there ps) = omega (arith, c.loop-place.invariant.1, none) in
    all ∙ count_rows rows ps full
    ∙ ap (λ qs. length (filter is_there (slots_of rows qs))) c.as_slice-place-items.ensures.value
    ∙ ap (λ ss. length (filter is_there ss)) c.self.view_is
