use Rattle.std.proofs.Common.{arith, ap}
use Rattle.tc_term.specs.TreeView.{tree_of}
use Rattle.tc_term.specs.Variables.{var_bound}
use Rattle.tc_term.proofs.Instances.{var_bound-raised}
use Rattle.bench_unify.proofs.cases.as_it_is.Goals as goal

pub returns : goal.returns
returns c = omega (arith, var_bound-raised 0 (tree_of c.term.result.now), ap var_bound c.term.ensures.term)
