use Rattle.std.proofs.Common.{sym, subst}
use Rattle.tc_bag.specs.Places.{AreRowPlaces}
use Rattle.tc_bag.proofs.Kept.{kept-none}
use Rattle.tc_bag.proofs.places.Places.new.Goals as goal

pub invariant_of-result : goal.invariant_of-result
invariant_of-result c =
    subst (λ ps. AreRowPlaces c.new-2.result ps 0) (sym c.new.ensures.items) (kept-none c.new-2.result)
