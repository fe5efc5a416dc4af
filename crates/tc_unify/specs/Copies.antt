-- Terms put together argument by argument.
use Rattle.std.specs.Prelude.{ℕ, List}
use Rattle.tc_term.specs.declared.terms.Term.{Term}
use Rattle.tc_term.specs.Tree.{Tree}
use Rattle.tc_term.specs.TreeView.{tree_of}
use Rattle.tc_term.specs.Variables.{raised}
use Rattle.tc_unify.specs.Nodes.{applied_over}

-- the term with these arguments more, whose variables are raised
abbrev pub applied_to : ℕ → Tree → List Term → Tree
applied_to shift t args = applied_over (λ arg. raised shift (tree_of arg)) t args
