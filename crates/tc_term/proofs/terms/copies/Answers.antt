use Rattle.std.proofs.Common.{◌≡◌, ap, map, length, sym, ◌∙◌}
use Rattle.std.proofs.lemmas.List.{length-map}
use Rattle.tc_term.proofs.Trees.{copied_all, trees_of-alike}
use Rattle.tc_term.specs.TreeView.{tree_of}
use Rattle.tc_term.proofs.terms.copies.Goals as goal
use Rattle.tc_term.proofs.terms.copies.Goals.{After-loop-term}

alike : (c : After-loop-term) → map tree_of c.loop-term.copies.items ≡ map tree_of c.args.terms.now
alike c =
    copied_all tree_of c.args.terms.now c.loop-term.copies.items c.loop-term.term-index c.loop-term-test.false c.loop-term.invariant

pub returns-clause-trees : goal.returns-clause-trees
returns-clause-trees c = trees_of-alike c.loop-term.copies.items c.args.terms.now (alike c)

pub returns-clause-as_long : goal.returns-clause-as_long
returns-clause-as_long c =
    sym (length-map c.loop-term.copies.items tree_of) ∙ ap length (alike c) ∙ length-map c.args.terms.now tree_of
