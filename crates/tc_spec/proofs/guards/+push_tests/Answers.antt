use Rattle.tc_term.specs.TreeView.{tree_of}
use Rattle.tc_spec.proofs.Tests.{other_left, other_right_by}
use Rattle.tc_spec.proofs.guards.+push_tests.Goals as goal

pub returns-then-not-first-clause-other : goal.returns-then-not-first-clause-other
returns-then-not-first-clause-other t c _ =
    other_left (tree_of c.args.t.now) (tree_of c.in-Some.left.now) (tree_of c.in-Some.right.now) c.in-Some.ensures.some
    (c.in_ok-first.ensures.other c.if-not-first.true)

pub returns-in-Some-clause-other : goal.returns-in-Some-clause-other
returns-in-Some-clause-other t c =
    other_right_by (tree_of c.args.t.now) (tree_of c.in-Some.left.now) (tree_of c.in-Some.right.now) c.push_tests-in-Some.result
    c.in-Some.ensures.some c.push_tests-in-Some.ensures.other
