use Rattle.std.proofs.Common.{◌≡◌}
use Rattle.tc_term.specs.TreeView.{tree_of}
use Rattle.tc_term.specs.Variables.{var_bound}
use Rattle.bench_unify.proofs.chains.chains.Given as goal

abbrev pub invariant-loop-i : goal.invariant-loop-i
invariant-loop-i g l = (l.store.vars ≡ 256) × (var_bound (tree_of l.doubled) ≡ 1)
