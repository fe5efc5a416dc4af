use Rattle.std.proofs.Common.{ap, ◌∙◌, map}
use Rattle.tc_term.specs.TreeView.{tree_of}
use Rattle.tc_model.specs.Reactions.{goal_term}
use Rattle.tc_spec.proofs.Nesting.{clause-by}
use Rattle.tc_spec.proofs.terms.clause_of.Goals as goal

pub returns : goal.returns
returns c =
    c.in_ok-clause.ensures
    ∙ clause-by c.args.r.now c.form-form.result c.op.result (tree_of c.head.result.now) c.guard.result.now
    (map tree_of c.in_ok-terms.terms.items) c.form-form.ensures.form c.op.ensures.op c.head.ensures.head c.guard.ensures.guard
    (c.in_ok-terms.ensures ∙ ap (map (goal_term c.form-form.result)) c.goals.ensures.goals)
