use Rattle.std.proofs.Common.{◌+◌, get_or, take, drop, ap, sym, ◌∙◌}
use Rattle.tc_lists.proofs.Parts.{split_read, take_read}
use Rattle.tc_lists.proofs.Options.{none_from_is_some}
use Rattle.tc_bag.specs.declared.slots.Place.{Place}
use Rattle.tc_bag.specs.Places.{slots_of, row_in}
use Rattle.tc_bag.proofs.Gaps.{slots-gap}
use Rattle.tc_bag.proofs.Kept.{own_read}
use Rattle.tc_bag.proofs.places.first_filled.Goals as goal

pub returns-then-is_filled : goal.returns-then-is_filled
returns-then-is_filled c =
    let ps = c.args.places.now in
    let i = c.loop-place.place-index in
    let none : Place = record { age = 0; taken = 0; row = 0 } in
    let p = get_or ps i none in
    (take i ps, drop (i + 1) ps, split_read ps i p c.loop-place-test.true (own_read ps i none c.loop-place-test.true), c.loop-place.invariant)

pub loop-place-preserved : goal.loop-place-preserved
loop-place-preserved c rows =
    let ps = c.args.places.now in
    let i = c.loop-place.place-index in
    let none : Place = record { age = 0; taken = 0; row = 0 } in
    let p = get_or ps i none in
    ap (slots_of rows) (take_read ps i p c.loop-place-test.true (own_read ps i none c.loop-place-test.true))
    ∙ slots-gap rows (take i ps) p (none_from_is_some (row_in p) (sym c.if-is_filled.ensures))
    ∙ c.loop-place.invariant rows
