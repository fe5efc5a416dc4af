use Rattle.std.proofs.Common.{◌≤◌, All, ap, ◌∙◌, subst}
use Rattle.tc_term.proofs.Trees.{All-depth}
use Rattle.tc_term.specs.Blocks.{terms_of}
use Rattle.tc_term.specs.Tree.{depth, depth_of_all}
use Rattle.tc_term.specs.TreeView.{tree_of, trees_of}
use Rattle.tc_term.proofs.terms.Args.items.Goals as goal

pub returns-clause-depth : goal.returns-clause-depth
returns-clause-depth c =
    subst (λ ts. All (λ t. depth (tree_of t) ≤ depth_of_all ts) c.items.result.now)
    (ap trees_of (c.items.ensures ∙ ap terms_of c.deref.ensures) ∙ c.self.view_is)
    (All-depth c.items.result.now)
