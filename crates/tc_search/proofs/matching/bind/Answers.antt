use Rattle.std.proofs.Common.{arith, sym, ◌∙◌}
use Rattle.std.proofs.lemmas.Bool.{false≢true}
use Rattle.std.proofs.lemmas.Grind.{common_steps}
use Rattle.tc_term.specs.TreeView.{tree_of}
use Rattle.tc_term.specs.Same.{same_tree-Decides}
use Rattle.tc_search.proofs.Bound.{bound_same, bound_differs, bound_new, ground_new}
use Rattle.tc_search.proofs.matching.bind.Goals as goal

pub returns-in-Some-clause-yes : goal.returns-in-Some-clause-yes
returns-in-Some-clause-yes c same =
    bound_same c.args.bound.now c.args.variable c.in-Some.first (tree_of c.args.tuple.now) (grind (arith, common_steps))
    ((same_tree-Decides (tree_of c.in-Some.first.now) (tree_of c.args.tuple.now)).0 (sym c.eq.ensures ∙ same))

pub returns-in-Some-clause-no : goal.returns-in-Some-clause-no
returns-in-Some-clause-no c differ =
    bound_differs c.args.bound.now c.args.variable c.in-Some.first (tree_of c.args.tuple.now) (grind (arith, common_steps))
    (λ e. false≢true (sym differ ∙ c.eq.ensures ∙ (same_tree-Decides (tree_of c.in-Some.first.now) (tree_of c.args.tuple.now)).1 e))

pub returns-clause-yes : goal.returns-clause-yes
returns-clause-yes c done =
    bound_new c.args.bound.now c.args.variable c.args.tuple c.requires.place (grind (arith, common_steps))

pub returns-clause-ground : goal.returns-clause-ground
returns-clause-ground c = ground_new c.args.bound.now c.args.variable c.args.tuple c.requires.place c.requires.tuple c.requires.ground
