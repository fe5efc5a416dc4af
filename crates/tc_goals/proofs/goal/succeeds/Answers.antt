use Rattle.std.proofs.Common.{refl, ap}
use Rattle.tc_term.specs.Tree.{Atomic}
use Rattle.tc_term.specs.TreeView.{tree_of}
use Rattle.tc_term.specs.Variables.{raised}
use Rattle.tc_model.specs.Events.{op_name}
use Rattle.tc_model.specs.Goals.{Scene, Equates}
use Rattle.tc_model.specs.declared.goals.Goal.TheVariants.{Agent, Centre, Operation, Tuple, Equal}
use Rattle.tc_goals.proofs.Steps.{equates_yes, assign_yes, assign_no, compare_yes, compare_no}
use Rattle.tc_goals.proofs.goal.succeeds.Goals as goal

pub returns-in-Equal-clause-done : goal.returns-in-Equal-clause-done
returns-in-Equal-clause-done g c =
    let scene : Scene = record { vars = c.args.vars; event = c.args.e.now; setting = c.args.context.now } in
    rw c.in-Equal.is
    (equates_yes scene c.args.store.now c.requires.width c.requires.solvable (Equal c.in-Equal.s c.in-Equal.t) (tree_of c.in-Equal.s) (tree_of c.in-Equal.t)
    c.equate.new.self c.equate.result (λ choice us es. refl) c.equate.ensures.solvable c.equate.ensures.added)

pub returns-in-Agent-clause-done : goal.returns-in-Agent-clause-done
returns-in-Agent-clause-done g c =
    let scene : Scene = record { vars = c.args.vars; event = c.args.e.now; setting = c.args.context.now } in
    rw c.in-Agent.is
    (equates_yes scene c.args.store.now c.requires.width c.requires.solvable (Agent c.in-Agent.t) (tree_of c.in-Agent.t) (Atomic c.agent.result.now)
    c.equate_name.new.store c.equate_name.result (λ choice us es. ap (λ n. Equates (tree_of c.in-Agent.t) (Atomic n)) c.agent.ensures.agent)
    c.equate_name.ensures.solvable c.equate_name.ensures.added)

pub returns-in-Centre-clause-done : goal.returns-in-Centre-clause-done
returns-in-Centre-clause-done g c =
    let scene : Scene = record { vars = c.args.vars; event = c.args.e.now; setting = c.args.context.now } in
    rw c.in-Centre.is
    (equates_yes scene c.args.store.now c.requires.width c.requires.solvable (Centre c.in-Centre.t) (tree_of c.in-Centre.t) (Atomic c.centre.result.now)
    c.equate_name-in-Centre.new.store c.equate_name-in-Centre.result (λ choice us es. ap (λ n. Equates (tree_of c.in-Centre.t) (Atomic n)) c.centre.ensures.centre)
    c.equate_name-in-Centre.ensures.solvable c.equate_name-in-Centre.ensures.added)

pub returns-in-Operation-clause-done : goal.returns-in-Operation-clause-done
returns-in-Operation-clause-done g c =
    let scene : Scene = record { vars = c.args.vars; event = c.args.e.now; setting = c.args.context.now } in
    rw c.in-Operation.is
    (equates_yes scene c.args.store.now c.requires.width c.requires.solvable (Operation c.in-Operation.t) (tree_of c.in-Operation.t) (Atomic (op_name c.op.result))
    c.equate_op.new.store c.equate_op.result (λ choice us es. ap (λ o. Equates (tree_of c.in-Operation.t) (Atomic (op_name o))) c.op.ensures)
    c.equate_op.ensures.solvable c.equate_op.ensures.added)

pub returns-in-Tuple-clause-done : goal.returns-in-Tuple-clause-done
returns-in-Tuple-clause-done g c =
    let scene : Scene = record { vars = c.args.vars; event = c.args.e.now; setting = c.args.context.now } in
    rw c.in-Tuple.is
    (equates_yes scene c.args.store.now c.requires.width c.requires.solvable (Tuple c.in-Tuple.t) (tree_of c.in-Tuple.t) (raised c.args.vars c.term.result.now)
    c.equate_event.new.store c.equate_event.result (λ choice us es. ap (λ u. Equates (tree_of c.in-Tuple.t) (raised c.args.vars u)) c.term.ensures.term)
    c.equate_event.ensures.solvable c.equate_event.ensures.added)

pub returns-in-Is-clause-done : goal.returns-in-Is-clause-done
returns-in-Is-clause-done g c =
    let scene : Scene = record { vars = c.args.vars; event = c.args.e.now; setting = c.args.context.now } in
    rw c.in-Is.is
    (assign_yes scene c.args.store.now c.requires.width c.requires.solvable c.in-Is.s c.in-Is.t c.assign.new.store c.assign.result c.assign.ensures.solvable c.assign.ensures.assigned)

pub returns-in-Is-clause-stuck : goal.returns-in-Is-clause-stuck
returns-in-Is-clause-stuck g c =
    let scene : Scene = record { vars = c.args.vars; event = c.args.e.now; setting = c.args.context.now } in
    rw c.in-Is.is
    (assign_no scene c.args.store.now c.requires.width c.requires.solvable c.in-Is.s c.in-Is.t c.assign.result c.assign.ensures.refused)

pub returns-in-Compare-clause-done : goal.returns-in-Compare-clause-done
returns-in-Compare-clause-done g c =
    let scene : Scene = record { vars = c.args.vars; event = c.args.e.now; setting = c.args.context.now } in
    rw c.in-Compare.is
    (compare_yes scene c.args.store.now c.requires.width c.requires.solvable c.in-Compare.op c.in-Compare.s c.in-Compare.t c.do_compare.result c.do_compare.ensures.holds)

pub returns-in-Compare-clause-stuck : goal.returns-in-Compare-clause-stuck
returns-in-Compare-clause-stuck g c =
    let scene : Scene = record { vars = c.args.vars; event = c.args.e.now; setting = c.args.context.now } in
    rw c.in-Compare.is
    (compare_no scene c.args.store.now c.requires.width c.requires.solvable c.in-Compare.op c.in-Compare.s c.in-Compare.t c.do_compare.result c.do_compare.ensures.fails)
