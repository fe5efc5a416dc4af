use Rattle.std.proofs.Common.{ap, sym, ◌∙◌, inl, inr}
use Rattle.tc_term.specs.TreeView.{tree_of}
use Rattle.tc_config.proofs.Cells.{no_integer, no_variable}
use Rattle.tc_config.proofs.lines.cells_of.Goals as goal

pub returns-in-Var : goal.returns-in-Var
returns-in-Var c ls e =
    elim c.in-Var.is [
      | inl (n, is) ↦ no_variable n ls (sym (ap tree_of is) ∙ e)
      | inr (n, is) ↦ no_integer n ls (sym (ap tree_of is) ∙ e)
    ]
