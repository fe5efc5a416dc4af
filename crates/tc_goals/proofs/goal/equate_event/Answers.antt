use Rattle.std.proofs.Common.{◌∙◌, arith}
use Rattle.tc_term.specs.TreeView.{tree_of}
use Rattle.tc_goals.proofs.Plain.{var_bound-template}
use Rattle.tc_goals.proofs.Plain.{with_pair-event, Solvable-event, var_bound-event}
use Rattle.tc_goals.proofs.goal.equate_event.Goals as goal

pub add-requires-clause-left : goal.add-requires-clause-left
add-requires-clause-left g c =
    var_bound-template (tree_of c.args.t.now) c.args.store.now.vars (omega (arith, c.requires.left, c.requires.width))

pub add-requires-clause-right : goal.add-requires-clause-right
add-requires-clause-right g c =
    var_bound-event (tree_of c.term.result.now) c.args.e.now c.args.vars c.args.store.now.vars c.term.ensures.term c.requires.width

pub returns-clause-added : goal.returns-clause-added
returns-clause-added g c added =
    c.in_ok-added.ensures.added added
    ∙ with_pair-event c.args.store.now (tree_of c.args.t.now) (tree_of c.term.result.now) c.args.e.now c.args.vars c.term.ensures.term

pub returns-clause-refused : goal.returns-clause-refused
returns-clause-refused g c never solvable =
    c.in_ok-added.ensures.refused never
    (Solvable-event c.args.store.now (tree_of c.args.t.now) (tree_of c.term.result.now) c.args.e.now c.args.vars c.term.ensures.term solvable)
