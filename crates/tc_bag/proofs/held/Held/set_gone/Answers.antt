use Rattle.std.proofs.Common.{All, sym, subst}
use Rattle.tc_bag.specs.Places.{IsFindable}
use Rattle.tc_bag.proofs.ByAge.{findable_gone}
use Rattle.tc_bag.proofs.held.Held.set_gone.Goals as goal

pub invariant_of-self : goal.invariant_of-self
invariant_of-self c =
    let own = c.self.inside in
    subst (All (IsFindable own.start own.whole c.leave_row.new.self)) (sym c.set_taken.ensures)
    (findable_gone own.start own.whole own.index c.leave_row.new.self c.args.age c.args.n own.places c.requires.counted
    c.leave_row.ensures.kept c.self.invariant)
