use Rattle.tc_cascade.proofs.Keeping.{AddsYounger-kept_or_undone}
use Rattle.tc_phases.specs.Running.{changed, event_in}
use Rattle.tc_phases.proofs.Unused.{phase-unused}
use Rattle.tc_phases.proofs.running.run_phase.Goals as goal

pub returns-then-not-has_op-clause-phase : goal.returns-then-not-has_op-clause-phase
returns-then-not-has_op-clause-phase g c =
    phase-unused c.args.regime.now (event_in c.args.trigger.now) c.args.bag.now (changed c.args.change.now c.args.bag.now)
    c.make.new.bag c.empty.result c.op.result c.has_op.result c.op.ensures c.has_op.ensures c.if-not-has_op.true
    c.empty.ensures c.in_ok-make.ensures.changed

pub returns-clause-adds : goal.returns-clause-adds
returns-clause-adds g c =
    let end = c.make_and_run-end in
    AddsYounger-kept_or_undone end.result c.args.bag.now c.mark.new.self end.new.bag c.keep_or_undo.new.bag
    c.in_ok-mark.ensures.marked end.ensures.saved c.keep_or_undo.ensures.marked end.ensures.adds
