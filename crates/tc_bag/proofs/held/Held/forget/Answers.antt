use Rattle.std.proofs.Common.{All, sym, subst}
use Rattle.std.proofs.lemmas.List.Elements.{All-filter}
use Rattle.tc_bag.specs.Slots.{is_not_of}
use Rattle.tc_bag.specs.Places.{IsFindable}
use Rattle.tc_bag.proofs.held.Held.forget.Goals as goal

pub invariant_of-self : goal.invariant_of-self
invariant_of-self c =
    let own = c.self.inside in
    let Found = IsFindable own.start own.whole own.index in
    subst (All Found) (sym c.remove-tuple.ensures) (All-filter (is_not_of c.args.age) Found own.places c.self.invariant)
