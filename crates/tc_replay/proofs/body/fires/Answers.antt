use Rattle.std.proofs.Common.{[], length, All, refl, sym, ap, subst, arith}
use Rattle.tc_term.specs.Equations.{Equations}
use Rattle.tc_bag.specs.Stock.{tuples_of}
use Rattle.tc_goals.specs.Moments.{moment}
use Rattle.tc_model.specs.Within.{HasVarsBelow, terms_of}
use Rattle.tc_model.proofs.Rules.{rule_goals}
use Rattle.tc_replay.proofs.Bodies.{begun_met, apart_fired, fires_yes, fires_tuples, fires_no}
use Rattle.tc_replay.proofs.body.fires.Goals as goal

pub returns-then-not-branch-clause-no : goal.returns-then-not-branch-clause-no
returns-then-not-branch-clause-no g c = λ _.
    apart_fired c.args.r.now c.args.e.now c.args.context.now (tuples_of c.args.bag.now.now)
    (c.in_ok-meet_head.ensures.apart c.if-not-branch.true)
    c.goals-goals.ensures.rule.some c.args.recorded.now

pub lead-requires-clause-goals : goal.lead-requires-clause-goals
lead-requires-clause-goals g c =
    subst (λ n. All (λ g. All (HasVarsBelow n) (terms_of g)) c.goals-goals.result.now) (sym c.vars-vars.ensures.vars)
    (subst (All (λ g. All (HasVarsBelow c.args.r.now.vars) (terms_of g))) (sym c.goals-goals.ensures.goals)
    (rule_goals c.args.r.now c.goals-goals.ensures.rule))

pub lead-requires-clause-width : goal.lead-requires-clause-width
lead-requires-clause-width g c =
    omega (arith, ap (λ (s : Equations). s.vars) (c.in_ok-meet_head.ensures.met c.if-not-branch.false), c.vars-vars.ensures.vars)

pub lead-requires-clause-next : goal.lead-requires-clause-next
lead-requires-clause-next g c = omega (arith, c.requires.next, c.goals-goals.ensures.rule.most, ap length c.goals-goals.ensures.goals)

pub returns-clause-yes : goal.returns-clause-yes
returns-clause-yes g c =
    let us = tuples_of c.args.bag.now.now in
    fires_yes c.args.r.now c.args.e.now c.args.context.now us c.vars-vars.result c.goals-goals.result.now (moment c.meet_head.new.store us []) c.args.recorded.now
    (begun_met c.args.r.now c.args.e.now c.args.context.now us c.meet_head.new.store (c.in_ok-meet_head.ensures.met c.if-not-branch.false)) c.vars-vars.ensures.vars c.goals-goals.ensures.goals
    (moment c.lead.new.store (tuples_of c.lead.new.bag.now) c.args.recorded.now) c.lead.result refl c.lead.ensures.yes

pub returns-clause-tuples : goal.returns-clause-tuples
returns-clause-tuples g c =
    let us = tuples_of c.args.bag.now.now in
    fires_tuples c.args.r.now c.args.e.now c.args.context.now us c.vars-vars.result c.goals-goals.result.now (moment c.meet_head.new.store us []) c.args.recorded.now
    (begun_met c.args.r.now c.args.e.now c.args.context.now us c.meet_head.new.store (c.in_ok-meet_head.ensures.met c.if-not-branch.false)) c.vars-vars.ensures.vars c.goals-goals.ensures.goals
    (moment c.lead.new.store (tuples_of c.lead.new.bag.now) c.args.recorded.now) c.lead.result refl c.lead.ensures.yes

pub returns-clause-no : goal.returns-clause-no
returns-clause-no g c =
    let us = tuples_of c.args.bag.now.now in
    fires_no c.args.r.now c.args.e.now c.args.context.now us c.vars-vars.result c.goals-goals.result.now (moment c.meet_head.new.store us []) c.args.recorded.now
    (begun_met c.args.r.now c.args.e.now c.args.context.now us c.meet_head.new.store (c.in_ok-meet_head.ensures.met c.if-not-branch.false)) c.vars-vars.ensures.vars c.goals-goals.ensures.goals
    c.lead.result c.lead.ensures.no

pub returns-clause-room : goal.returns-clause-room
returns-clause-room g c = omega (arith, c.lead.ensures.room, c.goals-goals.ensures.rule.most, ap length c.goals-goals.ensures.goals)
