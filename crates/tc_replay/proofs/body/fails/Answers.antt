use Rattle.std.proofs.Common.{◌≡◌, ◌+◌, ◌-◌, [], length, length-take, All, sym, ap, subst, ◌∙◌, arith}
use Rattle.std.proofs.lemmas.Bool.{true≢false}
use Rattle.std.proofs.lemmas.List.Elements.{All-take}
use Rattle.tc_term.specs.Equations.{Equations}
use Rattle.tc_bag.specs.Stock.{tuples_of}
use Rattle.tc_goals.specs.Moments.{moment}
use Rattle.tc_model.specs.Within.{HasVarsBelow, terms_of}
use Rattle.tc_model.proofs.Rules.{rule_goals}
use Rattle.tc_replay.proofs.Bodies.{begun_met, not_failed_outside, apart_failed, apart_only, fails_before, fails_yes, fails_no}
use Rattle.tc_replay.proofs.body.fails.Goals as goal

pub returns-then-number-eq0-clause-no : goal.returns-then-number-eq0-clause-no
returns-then-number-eq0-clause-no g c = λ _.
    not_failed_outside c.args.r.now c.args.e.now c.args.context.now (tuples_of c.args.bag.now.now) c.args.number c.args.recorded.now
    (λ some few. omega (arith, some, c.if-number-eq0.true))

pub returns-then-goals-place-clause-no : goal.returns-then-goals-place-clause-no
returns-then-goals-place-clause-no g c = λ _.
    not_failed_outside c.args.r.now c.args.e.now c.args.context.now (tuples_of c.args.bag.now.now) c.args.number c.args.recorded.now
    (λ some few. omega (arith, some, few, c.if-goals-place.true, ap length c.goals-goals.ensures.goals))

pub returns-then-not-branch-clause-yes : goal.returns-then-not-branch-clause-yes
returns-then-not-branch-clause-yes g c = λ y.
    let apart = c.in_ok-meet_head.ensures.apart c.if-not-branch.true in
    let first = c.is_first.ensures.0 y in
    apart_failed c.args.r.now c.args.e.now c.args.context.now (tuples_of c.args.bag.now.now) apart
    c.goals-goals.ensures.rule.some c.args.number c.args.recorded.now first.0 first.1

pub returns-then-not-branch-clause-no : goal.returns-then-not-branch-clause-no
returns-then-not-branch-clause-no g c = λ n fails.
    let apart = c.in_ok-meet_head.ensures.apart c.if-not-branch.true in
    let first = apart_only c.args.r.now c.args.e.now c.args.context.now (tuples_of c.args.bag.now.now) apart
    c.goals-goals.ensures.rule.some c.args.number c.args.recorded.now fails in
    true≢false (sym (c.is_first.ensures.1 first) ∙ n)

pub lead-requires-clause-width : goal.lead-requires-clause-width
lead-requires-clause-width g c =
    omega (arith, ap (λ (s : Equations). s.vars) (c.in_ok-meet_head.ensures.met c.if-not-branch.false), c.vars-vars.ensures.vars)

pub lead-requires-clause-goals : goal.lead-requires-clause-goals
lead-requires-clause-goals g c =
    All-take (λ g. All (HasVarsBelow c.vars-vars.result) (terms_of g)) _ c.goals-goals.result.now
    (subst (λ n. All (λ g. All (HasVarsBelow n) (terms_of g)) c.goals-goals.result.now) (sym c.vars-vars.ensures.vars)
    (subst (All (λ g. All (HasVarsBelow c.args.r.now.vars) (terms_of g))) (sym c.goals-goals.ensures.goals)
    (rule_goals c.args.r.now c.goals-goals.ensures.rule)))

pub lead-requires-clause-next : goal.lead-requires-clause-next
lead-requires-clause-next g c =
    omega (
      arith,
      c.requires.next,
      c.goals-goals.ensures.rule.most,
      ap length c.goals-goals.ensures.goals,
      c.if-goals-place.false,
      length-take (c.args.number - 1) c.goals-goals.result.now,
    )

pub returns-then-not-branch-2-clause-no : goal.returns-then-not-branch-2-clause-no
returns-then-not-branch-2-clause-no g c = λ _.
    let us = tuples_of c.args.bag.now.now in
    let at : c.args.number ≡ (c.args.number - 1) + 1 = omega (arith, c.if-number-eq0.false) in
    fails_before c.args.r.now c.args.e.now c.args.context.now us c.vars-vars.result c.goals-goals.result.now (moment c.meet_head.new.store us []) c.args.recorded.now
    (begun_met c.args.r.now c.args.e.now c.args.context.now us c.meet_head.new.store (c.in_ok-meet_head.ensures.met c.if-not-branch.false)) c.vars-vars.ensures.vars c.goals-goals.ensures.goals
    (c.args.number - 1) c.args.number at (c.in_ok-lead.ensures.no c.if-not-branch-2.true)

pub is_stuck-requires-clause-width : goal.is_stuck-requires-clause-width
is_stuck-requires-clause-width g c =
    omega (arith, c.lead.ensures.vars, ap (λ (s : Equations). s.vars) (c.in_ok-meet_head.ensures.met c.if-not-branch.false), c.vars-vars.ensures.vars)

pub is_stuck-requires-clause-goal : goal.is_stuck-requires-clause-goal
is_stuck-requires-clause-goal g c =
    subst (λ g. All (HasVarsBelow c.vars-vars.result) (terms_of g)) (sym c.index-goals-place.is)
    (subst (λ n. All (λ g. All (HasVarsBelow n) (terms_of g)) c.goals-goals.result.now) (sym c.vars-vars.ensures.vars)
    (subst (All (λ g. All (HasVarsBelow c.args.r.now.vars) (terms_of g))) (sym c.goals-goals.ensures.goals)
    (rule_goals c.args.r.now c.goals-goals.ensures.rule)) (c.args.number - 1) c.index-goals-place.result c.if-goals-place.false)

pub returns-clause-yes : goal.returns-clause-yes
returns-clause-yes g c =
    let us = tuples_of c.args.bag.now.now in
    let at : c.args.number ≡ (c.args.number - 1) + 1 = omega (arith, c.if-number-eq0.false) in
    fails_yes c.args.r.now c.args.e.now c.args.context.now us c.vars-vars.result c.goals-goals.result.now (moment c.meet_head.new.store us []) c.args.recorded.now
    (begun_met c.args.r.now c.args.e.now c.args.context.now us c.meet_head.new.store (c.in_ok-meet_head.ensures.met c.if-not-branch.false)) c.vars-vars.ensures.vars c.goals-goals.ensures.goals
    (c.args.number - 1) c.args.number at
    c.index-goals-place.result c.lead.new.store (tuples_of c.lead.new.bag.now) c.if-goals-place.false c.index-goals-place.is
    (c.in_ok-lead.ensures.yes c.if-not-branch-2.false) c.is_stuck.result c.is_stuck.ensures.stuck

pub returns-clause-no : goal.returns-clause-no
returns-clause-no g c =
    let us = tuples_of c.args.bag.now.now in
    let at : c.args.number ≡ (c.args.number - 1) + 1 = omega (arith, c.if-number-eq0.false) in
    fails_no c.args.r.now c.args.e.now c.args.context.now us c.vars-vars.result c.goals-goals.result.now (moment c.meet_head.new.store us []) c.args.recorded.now
    (begun_met c.args.r.now c.args.e.now c.args.context.now us c.meet_head.new.store (c.in_ok-meet_head.ensures.met c.if-not-branch.false)) c.vars-vars.ensures.vars c.goals-goals.ensures.goals
    (c.args.number - 1) c.args.number at
    c.index-goals-place.result c.lead.new.store (tuples_of c.lead.new.bag.now) c.if-goals-place.false c.index-goals-place.is
    (c.in_ok-lead.ensures.yes c.if-not-branch-2.false) c.is_stuck.result c.is_stuck.ensures.moves
