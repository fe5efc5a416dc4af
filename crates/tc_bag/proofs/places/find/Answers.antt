use Rattle.std.proofs.Common.{ap, sym, get_or, ◌∙◌}
use Rattle.std.specs.Option.{option_copied}
use Rattle.tc_bag.specs.declared.slots.Place.{Place}
use Rattle.tc_bag.specs.Places.{slot_if, slots_of}
use Rattle.tc_bag.proofs.ByAge.{slot_at-others}
use Rattle.tc_bag.proofs.Gaps.{slot_found, slots-others}
use Rattle.tc_bag.proofs.Kept.{own_read}
use Rattle.tc_bag.proofs.places.find.Goals as goal

pub returns-in_err-i-clause-is : goal.returns-in_err-i-clause-is
returns-in_err-i-clause-is c rows =
    let ps = c.args.places.now in
    ap (λ o. slot_if rows (option_copied o)) c.from_residual.ensures
    ∙ sym (slot_at-others c.args.age (slots_of rows ps) (slots-others rows c.args.age ps c.in_err-i.ensures.none))

pub returns-clause-is : goal.returns-clause-is
returns-clause-is c rows =
    let ps = c.args.places.now in
    let i = c.in_ok-i.i in
    let none : Place = record { age = 0; taken = 0; row = 0 } in
    slot_found rows c.args.age i ps (get_or ps i none) c.requires c.in_ok-i.ensures.found (own_read ps i none c.in_ok-i.ensures.found.0)
