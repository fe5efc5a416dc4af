use Rattle.std.proofs.Common.{◌≤◌, ◌+◌, length, filter, vec_capacity, ap, sym, subst, ◌∙◌, arith}
use Rattle.tc_bag.specs.Stock.{with_tuple}
use Rattle.tc_bag.specs.Slots.{IsSound, stock_of, is_there, most_rows}
use Rattle.tc_bag.proofs.Stocks.{sound-put, stock-put, filter_fewer}
use Rattle.tc_bag.proofs.bag.Bag.put.Goals as goal

pub invariant_of-self-in-Ok : goal.invariant_of-self-in-Ok
invariant_of-self-in-Ok c =
    let b = c.self.inside in
    let more = most_rows (vec_capacity c.reserve.new.self) in
    let fits : length b.log.items + length (filter is_there b.rows) + 1 ≤ more =
    omega (
      arith,
      c.in_default.ensures.ok,
      c.reserve.new.self.ok.0,
      ap length c.reserve.ensures.items,
      c.len-room.ensures.len,
      filter_fewer is_there b.rows,
    ) in
    subst (λ log. IsSound c.push.new.self (b.next + 1) log more b.marks.items) (sym c.reserve.ensures.items)
    (subst (λ rows. IsSound rows (b.next + 1) b.log.items more b.marks.items) (sym c.in-Ok.ensures.pushed)
    (sound-put b.rows b.next b.log.items (most_rows (vec_capacity b.log)) b.marks.items c.self.invariant c.args.tuple c.term-term.ensures.tuple more fits))

pub returns-in-Ok-clause-put : goal.returns-in-Ok-clause-put
returns-in-Ok-clause-put c =
    let b = c.self.inside in
    ap (λ rows. stock_of rows (b.next + 1) b.marks.items) c.in-Ok.ensures.pushed
    ∙ stock-put b.rows b.next b.log.items (most_rows (vec_capacity b.log)) b.marks.items c.self.invariant c.args.tuple c.term-term.ensures.tuple
    ∙ ap (λ s. with_tuple s c.args.tuple) c.self.view_is
