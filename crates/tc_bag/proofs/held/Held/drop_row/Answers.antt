use Rattle.std.proofs.Common.{All, filter, sym, subst}
use Rattle.std.proofs.lemmas.List.Elements.{All-filter}
use Rattle.tc_bag.specs.Slots.{is_not_of}
use Rattle.tc_bag.specs.Places.{IsFindable}
use Rattle.tc_bag.proofs.ByAge.{findable_kept, not_of-other}
use Rattle.tc_bag.proofs.held.Held.drop_row.Goals as goal

pub invariant_of-self : goal.invariant_of-self
invariant_of-self c =
    let own = c.self.inside in
    let age = c.args.age in
    subst (All (IsFindable own.start own.whole c.drop_row.new.self)) (sym c.remove.ensures)
    (findable_kept own.start own.whole own.index c.drop_row.new.self age (filter (is_not_of age) own.places) c.drop_row.ensures.kept
    (not_of-other age own.places) (All-filter (is_not_of age) (IsFindable own.start own.whole own.index) own.places c.self.invariant))

pub invariant_of-self-in_default : goal.invariant_of-self-in_default
invariant_of-self-in_default c =
    let own = c.self.inside in
    let Found = IsFindable own.start own.whole own.index in
    subst (All Found) (sym c.remove.ensures) (All-filter (is_not_of c.args.age) Found own.places c.self.invariant)
