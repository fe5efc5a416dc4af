use Rattle.std.proofs.Common.{arith}
use Rattle.tc_term.specs.TreeView.{tree_of}
use Rattle.tc_spec.proofs.Tests.{guard_is, no_guard_other, untrue}
use Rattle.tc_spec.proofs.guards.tests_of.Goals as goal

pub returns-then-not-all-clause-none : goal.returns-then-not-all-clause-none
returns-then-not-all-clause-none c tests is =
    no_guard_other (tree_of c.args.t.now) tests (untrue (tree_of c.args.t.now) c.is_true.result c.if-is_true.false c.is_true.ensures)
    (c.in_ok-all.ensures.other c.if-not-all.true) is

pub returns-clause-tests : goal.returns-clause-tests
returns-clause-tests c =
    guard_is (tree_of c.args.t.now) c.new-tests.result.items c.push_tests.new.into.items c.new-tests.ensures.items
    (c.in_ok-all.ensures.all c.if-not-all.false)
    (omega (arith, c.if-len-gt-MOST_TESTS.false, c.len.ensures, c.push_tests.new.into.ok.0))
