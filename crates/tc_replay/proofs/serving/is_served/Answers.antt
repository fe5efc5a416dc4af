use Rattle.tc_bag.specs.Stock.{tuples_of}
use Rattle.tc_model.specs.Choices.{AnyOne}
use Rattle.tc_model.specs.Tables.{IsServed}
use Rattle.tc_replay.proofs.Served.{exact_there}
use Rattle.tc_replay.proofs.serving.is_served.Goals as goal

pub returns-clause-exact : goal.returns-clause-exact
returns-clause-exact c = λ origin s id made.
    exact_there origin s id c.args.regime.now.spec.now c.args.regime.now.context.now c.args.regime.now.budget (tuples_of c.args.bag.now.now) made
    c.is_met.result c.of_call.result c.args.items.now (IsServed AnyOne origin s id c.args.op.now c.args.outcome.now c.args.items.now)
    c.is_met.ensures.exact (c.of_call.ensures.exact origin s id c.args.items.now)
