use Rattle.std.proofs.Common.{◌≤◌, All, take}
use Rattle.tc_term.specs.TreeView.{tree_of}
use Rattle.tc_term.specs.Variables.{raised, var_bound}
use Rattle.test_term_table.proofs.sample.+is_below.Given as goal

abbrev pub invariant-loop-arg : goal.invariant-loop-arg
invariant-loop-arg l = All (λ t. var_bound (raised l.shift (tree_of t)) ≤ l.vars) (take l.arg-index l.arg-items)
