use Rattle.std.proofs.Common.{sym, ◌∙◌}
use Rattle.tc_term.specs.Same.{same_tree-Decides}
use Rattle.tc_term.specs.TreeView.{tree_of}
use Rattle.tc_rows.proofs.same.same_tuple.Goals as goal

pub returns : goal.returns
returns c =
    let same = same_tree-Decides (tree_of c.term.result.now) (tree_of c.term-2.result.now) in (
      λ yes. sym c.term.ensures.term ∙ (same.0 (sym c.eq.ensures ∙ yes) ∙ c.term-2.ensures.term),
      λ is. c.eq.ensures ∙ same.1 (c.term.ensures.term ∙ (is ∙ sym c.term-2.ensures.term)),
    )
