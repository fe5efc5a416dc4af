use Rattle.std.proofs.Common.{ap, subst, ◌∙◌, arith}
use Rattle.tc_term.specs.Equations.{Equations, Solvable}
use Rattle.tc_term.specs.TreeView.{tree_of}
use Rattle.tc_term.specs.Variables.{var_bound}
use Rattle.tc_term.proofs.Numbered.{var_bound-pattern}
use Rattle.tc_unify.proofs.MetTerms.{met-same}
use Rattle.tc_model.proofs.Rules.{rule_head, rule_vars}
use Rattle.tc_replay.proofs.body.meet_head.Goals as goal

pub meet-requires-clause-bound : goal.meet-requires-clause-bound
meet-requires-clause-bound g c =
    let inside = (rule_head c.args.r.now c.head.ensures.rule).bound in
    omega (arith, inside, ap var_bound c.head.ensures.head, c.vars.ensures.vars)

pub meet-requires-clause-few : goal.meet-requires-clause-few
meet-requires-clause-few g c =
    let pattern = c.term.ensures.event.term in
    let bound = var_bound-pattern c.args.e.now.term pattern in
    let few = rule_vars c.args.r.now c.vars.ensures.rule in
    omega (arith, few, c.vars.ensures.vars, bound, pattern.template.few, ap var_bound c.term.ensures.term)

pub returns-clause-met : goal.returns-clause-met
returns-clause-met g c = λ y.
    c.in_ok-met.ensures.met y
    ∙ met-same c.vars.result c.args.r.now.vars (tree_of c.head.result.now) c.args.r.now.head c.term.result.now
    c.args.e.now.term c.vars.ensures.vars c.head.ensures.head c.term.ensures.term

pub returns-clause-apart : goal.returns-clause-apart
returns-clause-apart g c = λ n.
    subst (λ (s : Equations). Solvable s.vars s.pairs → ⊥)
    (met-same c.vars.result c.args.r.now.vars (tree_of c.head.result.now) c.args.r.now.head c.term.result.now
    c.args.e.now.term c.vars.ensures.vars c.head.ensures.head c.term.ensures.term)
    (c.in_ok-met.ensures.apart n)
