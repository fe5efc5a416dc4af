use Rattle.std.proofs.Common.{◌≡◌, ◌∙◌, ap, sym, subst, arith}
use Rattle.tc_term.specs.TreeView.{tree_of}
use Rattle.tc_term.specs.Variables.{var_bound}
use Rattle.tc_term.specs.Equations.{Equations, Solvable}
use Rattle.tc_term.proofs.Numbered.{var_bound-pattern}
use Rattle.tc_model.proofs.Rules.{rule_head, rule_vars}
use Rattle.tc_unify.specs.Met.{met}
use Rattle.tc_unify.proofs.MetTerms.{met-same}
use Rattle.tc_spec.proofs.Apart.{never_met}
use Rattle.tc_spec.proofs.Counting.{tried}
use Rattle.tc_spec.proofs.Tests.{held-allows, not_held}
use Rattle.tc_spec.proofs.triggers.is_triggered.Given.{Over}
use Rattle.tc_spec.proofs.triggers.is_triggered.Goals as goal

pub returns-then-not-could_meet-clause-no : goal.returns-then-not-could_meet-clause-no
returns-then-not-could_meet-clause-no g c fails triggered =
    never_met c.args.r.now c.args.e.now (tree_of c.head-head.result.now) (tree_of c.term.result.now) c.head-head.ensures.head
    (c.term.ensures.term ∙ c.term-term.ensures.term) (c.could_meet.ensures.apart c.if-not-could_meet.true) triggered

pub returns-then-not-has_guard_for-clause-no : goal.returns-then-not-has_guard_for-clause-no
returns-then-not-has_guard_for-clause-no g c fails triggered =
    not_held c.phase.result c.sign.result c.args.r.now.guard c.args.e.now c.phase.ensures c.sign.ensures
    (c.has_guard_for.ensures.no c.if-not-has_guard_for.true) triggered.guard

pub meet-requires-clause-bound : goal.meet-requires-clause-bound
meet-requires-clause-bound g c =
    let below = (rule_head c.args.r.now c.head-head.ensures.rule).bound in
    omega (arith, below, ap var_bound c.head-head.ensures.head, c.vars.ensures.vars)

pub meet-requires-clause-few : goal.meet-requires-clause-few
meet-requires-clause-few g c =
    let pattern = c.term-term.ensures.event.term in
    let bound = var_bound-pattern c.args.e.now.term pattern in
    let few = rule_vars c.args.r.now c.vars.ensures.rule in
    omega (arith, few, c.vars.ensures.vars, bound, pattern.template.few, ap var_bound c.term-term.ensures.term)

-- the equation of the reaction's head and the event's term
equation : (g : Over) (c : goal.In_ok-met g)
    → met c.vars.result (tree_of c.head-head.result.now) c.term-term.result.now
    ≡ met c.args.r.now.vars c.args.r.now.head c.args.e.now.term
equation g c =
    met-same c.vars.result c.args.r.now.vars (tree_of c.head-head.result.now) c.args.r.now.head
    c.term-term.result.now c.args.e.now.term c.vars.ensures.vars c.head-head.ensures.head
    c.term-term.ensures.term

pub returns-clause-yes : goal.returns-clause-yes
returns-clause-yes g c y = record {
  op = c.has_op.ensures.0 c.if-not-has_op.false ∙ c.op.ensures;
  guard =
      held-allows c.phase.result c.sign.result c.args.r.now.guard c.args.e.now c.phase.ensures c.sign.ensures
      (c.has_guard_for.ensures.yes c.if-not-has_guard_for.false);
  solvable =
      subst (λ (s : Equations). Solvable s.vars s.pairs) (c.in_ok-met.ensures.met y ∙ equation g c)
      c.in_ok-met.ensures.solvable;
}

pub returns-clause-no : goal.returns-clause-no
returns-clause-no g c n triggered =
    c.in_ok-met.ensures.apart n
    (subst (λ (s : Equations). Solvable s.vars s.pairs) (sym (equation g c)) triggered.solvable)

pub returns-in_err-met-clause-counted : goal.returns-in_err-met-clause-counted
returns-in_err-met-clause-counted g c =
    tried c.args.r.now c.args.e.now (tree_of c.head-head.result.now) (tree_of c.term.result.now) c.args.steps.now c.meet.new.steps
    (c.has_op.ensures.0 c.if-not-has_op.false ∙ c.op.ensures) c.head-head.ensures.head (c.term.ensures.term ∙ c.term-term.ensures.term)
    (c.could_meet.ensures.agree c.if-not-could_meet.false) c.meet.ensures.most

pub returns-clause-counted : goal.returns-clause-counted
returns-clause-counted g c =
    tried c.args.r.now c.args.e.now (tree_of c.head-head.result.now) (tree_of c.term.result.now) c.args.steps.now c.meet.new.steps
    (c.has_op.ensures.0 c.if-not-has_op.false ∙ c.op.ensures) c.head-head.ensures.head (c.term.ensures.term ∙ c.term-term.ensures.term)
    (c.could_meet.ensures.agree c.if-not-could_meet.false) c.meet.ensures.most
