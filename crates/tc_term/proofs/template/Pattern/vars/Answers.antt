use Rattle.std.proofs.Common.{ap, sym, ◌∙◌}
use Rattle.tc_term.proofs.Numbered.{var_bound-pattern}
use Rattle.tc_term.specs.TreeView.{tree_of}
use Rattle.tc_term.specs.Variables.{var_bound}
use Rattle.tc_term.proofs.template.Pattern.vars.Goals as goal

pub returns-clause-bound : goal.returns-clause-bound
returns-clause-bound c =
    c.self.invariant.1 ∙ sym (var_bound-pattern (tree_of c.self.inside.term) c.self.invariant.0) ∙ ap var_bound c.self.view_is
