use Rattle.std.proofs.Common.{ap, sym, ◌∙◌}
use Rattle.std.specs.Option.{option_copied}
use Rattle.tc_bag.specs.Places.{slot_if, slots_of, tuple_by}
use Rattle.tc_bag.proofs.ByAge.{tuple_if, tuple_there-slot_at}
use Rattle.tc_bag.proofs.Walks.{there-slot, there_row}
use Rattle.tc_bag.proofs.places.row_there.Goals as goal

pub returns-in_err-find-clause-is : goal.returns-in_err-find-clause-is
returns-in_err-find-clause-is c rows =
    ap (tuple_by rows) c.from_residual.ensures
    ∙ ap tuple_if (ap (λ o. slot_if rows (option_copied o)) (sym c.in_err-find.was) ∙ c.find.ensures.is rows)
    ∙ sym (tuple_there-slot_at c.args.age (slots_of rows c.args.places.now))

pub returns-clause-is : goal.returns-clause-is
returns-clause-is c rows =
    let p = c.in_ok-find.field-0.now in
    ap (tuple_by rows) c.there.ensures
    ∙ sym (there_row rows p)
    ∙ there-slot rows p
    ∙ ap tuple_if (ap (λ o. slot_if rows (option_copied o)) (sym c.in_ok-find.was) ∙ c.find.ensures.is rows)
    ∙ sym (tuple_there-slot_at c.args.age (slots_of rows c.args.places.now))
