use Rattle.std.proofs.Common.{sym, subst, vec_capacity}
use Rattle.tc_bag.specs.Slots.{stock_of, most_rows}
use Rattle.tc_bag.specs.Stock.{HasGone}
use Rattle.tc_bag.proofs.Begun.{begun-gone}
use Rattle.tc_bag.proofs.bag.Bag.taken.Goals as goal

pub returns-clause-gone : goal.returns-clause-gone
returns-clause-gone c =
    let b = c.self.inside in
    subst (HasGone c.deref.result.now) c.self.view_is
    (subst (λ ages. HasGone ages (stock_of b.rows b.next b.marks.items)) (sym c.deref.ensures.value)
    (begun-gone b.rows b.next b.log.items (most_rows (vec_capacity b.log)) b.marks.items c.self.invariant))
