use Rattle.std.proofs.Common.{◌≡◌, map, take}
use Rattle.tc_term.specs.TreeView.{tree_of}
use Rattle.tc_model.specs.Reactions.{test_term}
use Rattle.tc_spec.proofs.terms.terms_of_tests.Given as goal

-- the terms so far are those of the tests so far
abbrev pub invariant-loop-test : goal.invariant-loop-test
invariant-loop-test l = map tree_of l.terms.items ≡ map test_term (take l.test-index l.tests)
