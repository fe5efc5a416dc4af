use Rattle.std.proofs.Common.{ap, sym, ◌∙◌}
use Rattle.std.specs.Option.{option_copied, option_map}
use Rattle.tc_bag.specs.Places.{slot_if, tuple_by}
use Rattle.tc_bag.specs.Slots.{Slot}
use Rattle.tc_bag.proofs.Walks.{slot_tuple}
use Rattle.tc_bag.proofs.places.row_of.Goals as goal

pub returns-in_err-find-clause-is : goal.returns-in_err-find-clause-is
returns-in_err-find-clause-is c rows =
    ap (tuple_by rows) c.from_residual.ensures
    ∙ ap (option_map (λ (s : Slot). s.tuple)) (ap (λ o. slot_if rows (option_copied o)) (sym c.in_err-find.was) ∙ c.find.ensures.is rows)

pub returns-clause-is : goal.returns-clause-is
returns-clause-is c rows =
    let p = c.in_ok-find.field-0.now in
    ap (tuple_by rows) c.row.ensures
    ∙ slot_tuple rows p
    ∙ ap (option_map (λ (s : Slot). s.tuple)) (ap (λ o. slot_if rows (option_copied o)) (sym c.in_ok-find.was) ∙ c.find.ensures.is rows)
