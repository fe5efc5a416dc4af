use Rattle.std.proofs.Common.{rules, ◌≤◌, subst}
use Rattle.tc_term.specs.TreeView.{tree_of}
use Rattle.tc_term.specs.Variables.{var_bound}
use Rattle.tc_term.proofs.Instances.{raised-zero}
use Rattle.test_term_table.proofs.sample.Sample.find.Goals as goal

pub oldest_match-requires-clause-bound : goal.oldest_match-requires-clause-bound
oldest_match-requires-clause-bound g c =
    subst (λ t. var_bound t ≤ c.args.self.now.store.vars) (raised-zero (tree_of c.args.template.now))
    (search rules)
