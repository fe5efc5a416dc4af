use Rattle.std.proofs.Common.{◌≤◌, ◌+◌, subst}
use Rattle.std.specs.Option.{IfNone}
use Rattle.tc_lists.specs.Firsts.{NoneOf}
use Rattle.tc_bag.specs.Stock.{tuples_of}
use Rattle.tc_model.specs.State.{IsAnswerable}
use Rattle.tc_pending.specs.Costs.{requests_steps}
use Rattle.tc_pending.specs.Waiting.{Waiting}
use Rattle.tc_pending.proofs.pending.Pending.oldest_answerable.Goals as goal

pub returns-clause-none : goal.returns-clause-none
returns-clause-none g c =
    let tuples = tuples_of c.args.bag.now.now in
    subst (λ (w : Waiting). IfNone c.answerable_from.result (NoneOf (IsAnswerable tuples) w.now)) c.self.view_is
    (subst (λ rs. IfNone c.answerable_from.result (NoneOf (IsAnswerable tuples) rs)) c.deref.ensures.value
    c.answerable_from.ensures.none)

pub returns-clause-counted : goal.returns-clause-counted
returns-clause-counted g c =
    let tuples = tuples_of c.args.bag.now.now in
    subst (λ (w : Waiting). c.answerable_from.new.steps ≤ c.args.steps.now + requests_steps tuples w.now) c.self.view_is
    (subst (λ rs. c.answerable_from.new.steps ≤ c.args.steps.now + requests_steps tuples rs) c.deref.ensures.value
    c.answerable_from.ensures.counted)
