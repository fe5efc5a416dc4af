use Rattle.tc_term.specs.TreeView.{tree_of}
use Rattle.tc_goals.proofs.Values.{no_number}
use Rattle.tc_goals.proofs.goal.do_compare.Goals as goal

pub returns-in_default-clause-fails : goal.returns-in_default-clause-fails
returns-in_default-clause-fails c = λ _ i j hi hj holds.
    no_number c.args.store.now (tree_of c.args.s.now) c.in_ok-i.field-0 c.in_ok-i.ensures c.in_default.not-Some i hi

pub returns-in_default-2-clause-fails : goal.returns-in_default-2-clause-fails
returns-in_default-2-clause-fails c = λ _ i j hi hj holds.
    no_number c.args.store.now (tree_of c.args.t.now) c.in_ok-j.field-0 c.in_ok-j.ensures c.in_default-2.not-Some j hj
