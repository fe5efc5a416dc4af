use Rattle.std.proofs.Common.{◌≡◌, Some, sym, ap, subst, ◌∙◌}
use Rattle.tc_bag.specs.Stock.{tuples_of, tuple_at}
use Rattle.tc_model.specs.Events.{success_event}
use Rattle.tc_model.specs.State.{after_taking}
use Rattle.tc_phases.specs.Phases.{IsPhase}
use Rattle.tc_phases.specs.Running.{changed}
use Rattle.tc_phases.proofs.Removals.{found-left}
use Rattle.tc_phases.proofs.phases.answer.Goals as goal

pub returns-clause-phase : goal.returns-clause-phase
returns-clause-phase g c =
    let old = c.args.bag.now in
    let t = c.in_ok-tuple.tuple in
    let there : tuple_at c.args.age old.now ≡ Some t = sym c.in-Some.ensures ∙ ap Some (sym c.in_ok-tuple.ensures) in
    subst (λ o. IsPhase c.args.regime.now (success_event o t) (after_taking c.args.wants t (tuples_of old.now)) old c.run_phase.new.bag c.in_ok-end.end)
    c.asking_op.ensures.op
    (subst (λ ts. IsPhase c.args.regime.now (success_event c.asking_op.result t) ts old c.run_phase.new.bag c.in_ok-end.end)
    (ap (λ change. tuples_of (changed change old).now) c.taking.ensures
    ∙ found-left c.args.wants c.args.age old t c.requires.oldest there)
    c.in_ok-end.ensures.phase)
