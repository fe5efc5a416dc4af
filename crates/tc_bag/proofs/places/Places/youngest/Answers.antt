use Rattle.std.proofs.Common.{◌≡◌, ◌-◌, Some, length, slice_get, sym, subst}
use Rattle.tc_bag.specs.Slots.{IsYoungest}
use Rattle.tc_bag.proofs.Gaps.{last_youngest}
use Rattle.tc_bag.proofs.places.Places.youngest.Goals as goal

pub returns-clause-some : goal.returns-clause-some
returns-clause-some c =
    let ps = c.self.inside.places.items in
    let p = c.in_ok-last.field-0.now in
    let read : slice_get ps (length ps - 1) ≡ Some p =
    subst (λ qs. slice_get qs (length qs - 1) ≡ Some p) c.deref.ensures.value (sym c.in_ok-last.ensures.value) in
    subst (λ ss. IsYoungest ss p.age) c.self.view_is (last_youngest c.self.inside.rows ps p c.self.invariant.full c.self.invariant.ends read)
