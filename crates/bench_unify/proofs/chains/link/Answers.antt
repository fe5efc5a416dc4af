use Rattle.std.proofs.Common.{◌+◌, arith}
use Rattle.tc_term.specs.TreeView.{tree_of}
use Rattle.tc_term.proofs.Instances.{var_bound-raised}
use Rattle.bench_unify.proofs.chains.link.Goals as goal

pub add-requires-clause-right : goal.add-requires-clause-right
add-requires-clause-right g c =
    omega (arith, var_bound-raised (c.args.i + 1) (tree_of c.args.doubled.now), c.requires.doubled, c.requires.behind, c.requires.variables)
