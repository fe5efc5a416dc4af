use Rattle.std.proofs.Common.{sym, subst, ap, ◌∙◌}
use Rattle.tc_term.specs.Equations.{Matches, with_pair}
use Rattle.tc_term.specs.Tree.{Tree}
use Rattle.tc_term.specs.TreeView.{tree_of}
use Rattle.tc_search.proofs.Equal.{var_bound-tuple}
use Rattle.tc_replay.proofs.meeting.is_added.Goals as goal

pub equate-requires-clause-right : goal.equate-requires-clause-right
equate-requires-clause-right g c =
    var_bound-tuple (tree_of c.term.result.now) c.args.tuple.now c.args.store.now.vars c.term.ensures.term c.term.ensures.tuple

pub returns-clause-added : goal.returns-clause-added
returns-clause-added g c matches =
    c.in_ok-added.ensures.added matches ∙ ap (with_pair c.args.store.now (tree_of c.args.t.now)) c.term.ensures.term

pub returns-clause-no : goal.returns-clause-no
returns-clause-no g c never match =
    c.in_ok-added.ensures.refused never
    (subst (λ (t : Tree). Matches c.args.store.now.vars c.args.store.now.pairs (tree_of c.args.t.now) t) (sym c.term.ensures.term) match)
