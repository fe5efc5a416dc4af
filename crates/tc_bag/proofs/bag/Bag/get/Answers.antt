use Rattle.std.proofs.Common.{ap, ◌∙◌}
use Rattle.tc_bag.specs.Stock.{Stock, tuple_at}
use Rattle.tc_bag.proofs.Stocks.{rows-at}
use Rattle.tc_bag.proofs.bag.Bag.get.Goals as goal

pub returns : goal.returns
returns c =
    c.get.ensures ∙ rows-at c.args.age c.self.inside.rows c.self.invariant.order
    ∙ ap (λ (stock : Stock). tuple_at c.args.age stock.now) c.self.view_is
