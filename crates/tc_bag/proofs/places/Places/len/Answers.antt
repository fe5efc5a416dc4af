use Rattle.std.proofs.Common.{arith}
use Rattle.tc_bag.proofs.Gaps.{slots_most}
use Rattle.tc_bag.proofs.places.Places.len.Goals as goal

pub returns-clause-small : goal.returns-clause-small
returns-clause-small c =
    let places = c.self.inside.places in
    omega (arith, c.self.invariant.count, slots_most c.self.inside.rows places.items, places.ok.0, places.ok.1, places.small)
