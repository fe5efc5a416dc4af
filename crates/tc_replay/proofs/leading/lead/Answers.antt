use Rattle.std.proofs.Common.{◌≤◌, ◌+◌, ◌∙◌, All, length, take, [], refl, sym, subst, arith}
use Rattle.std.specs.Option.{option_copied}
use Rattle.tc_bag.specs.Stock.{tuples_of}
use Rattle.tc_bag.proofs.Additions.{adds-younger-again}
use Rattle.tc_model.specs.Within.{HasVarsBelow, terms_of}
use Rattle.tc_goals.specs.Moments.{moment, scene}
use Rattle.tc_replay.specs.Following.{LeadsThere}
use Rattle.tc_replay.proofs.Followed.{begun, goals_led, goals_short, goal_none, goal_effect, goal_led, place_behind}
use Rattle.tc_replay.proofs.leading.lead.Goals as goal

pub loop-goal-init : goal.loop-goal-init
loop-goal-init g c = record {
  there = begun (scene c.args.vars c.args.e.now c.args.context.now) c.args.recorded.now (moment c.args.store.now (tuples_of c.args.bag.now.now) []);
  within = omega arith;
  width = refl;
  solvable = c.requires.solvable;
  saved = refl;
  next = omega arith;
  adds = record { rises = omega arith; added = λ r there older. there };
}

pub follow-requires-clause-goal : goal.follow-requires-clause-goal
follow-requires-clause-goal g c =
    subst (λ g. All (HasVarsBelow c.args.vars) (terms_of g)) (sym c.goal-item.is)
    (c.requires.goals c.loop-goal.goal-index c.goal-item.result c.loop-goal-test.true)

pub returns-then-not-branch-clause-no : goal.returns-then-not-branch-clause-no
returns-then-not-branch-clause-no g c = λ _.
    goal_none (scene c.args.vars c.args.e.now c.args.context.now) c.args.goals.now c.args.recorded.now
    (moment c.args.store.now (tuples_of c.args.bag.now.now) []) c.loop-goal.goal-index c.loop-goal.done c.loop-goal.store (tuples_of c.loop-goal.bag.now)
    c.loop-goal.invariant.within c.loop-goal.invariant.there c.goal-item.result (option_copied c.effect_at-next.result) c.loop-goal-test.true c.goal-item.is
    c.effect_at-next.ensures (c.in_ok-follow.ensures.none c.if-not-branch.true)

pub loop-goal-preserved : goal.loop-goal-preserved
loop-goal-preserved g c =
    let sc = scene c.args.vars c.args.e.now c.args.context.now in
    let begin = moment c.args.store.now (tuples_of c.args.bag.now.now) [] in
    let q = c.follow.new.store in
    let vs = tuples_of c.follow.new.bag.now in
    record {
      there = subst (λ k. LeadsThere sc (take (c.loop-goal.goal-index + 1) c.args.goals.now) begin (moment q vs (take k c.args.recorded.now)) c.args.recorded.now)
          (sym c.place_behind-behind.ensures)
          (goal_led sc c.args.goals.now c.args.recorded.now begin c.loop-goal.goal-index c.loop-goal.done c.loop-goal.store (tuples_of c.loop-goal.bag.now)
          c.loop-goal.invariant.within c.loop-goal.invariant.there c.goal-item.result (option_copied c.effect_at-next.result) c.loop-goal-test.true c.goal-item.is
          c.effect_at-next.ensures q vs (c.in_ok-follow.ensures.followed c.if-not-branch.false));
      within = subst (λ k. k ≤ length c.args.recorded.now) (sym c.place_behind-behind.ensures)
          (place_behind c.goal-item.result c.args.recorded.now c.loop-goal.done c.loop-goal.invariant.within
          (goal_effect sc c.args.goals.now c.args.recorded.now begin c.loop-goal.goal-index c.loop-goal.done c.loop-goal.store (tuples_of c.loop-goal.bag.now)
          c.loop-goal.invariant.within c.loop-goal.invariant.there c.goal-item.result (option_copied c.effect_at-next.result) c.loop-goal-test.true c.goal-item.is
          c.effect_at-next.ensures q vs (c.in_ok-follow.ensures.followed c.if-not-branch.false)));
      width = c.follow.ensures.vars ∙ c.loop-goal.invariant.width;
      solvable = c.follow.ensures.solvable;
      saved = c.follow.ensures.saved ∙ c.loop-goal.invariant.saved;
      next = omega (arith, c.follow.ensures.room, c.loop-goal.invariant.next);
      adds = adds-younger-again c.args.bag.now c.loop-goal.bag c.follow.new.bag c.loop-goal.invariant.adds c.follow.ensures.adds;
    }

pub returns-in_err-follow-clause-adds : goal.returns-in_err-follow-clause-adds
returns-in_err-follow-clause-adds g c =
    adds-younger-again c.args.bag.now c.loop-goal.bag c.follow.new.bag c.loop-goal.invariant.adds c.follow.ensures.adds

pub returns-then-not-branch-clause-adds : goal.returns-then-not-branch-clause-adds
returns-then-not-branch-clause-adds g c =
    adds-younger-again c.args.bag.now c.loop-goal.bag c.follow.new.bag c.loop-goal.invariant.adds c.follow.ensures.adds

pub returns-then-done-recorded-clause-no : goal.returns-then-done-recorded-clause-no
returns-then-done-recorded-clause-no g c = λ _.
    goals_short (scene c.args.vars c.args.e.now c.args.context.now) c.args.goals.now c.args.recorded.now
    (moment c.args.store.now (tuples_of c.args.bag.now.now) []) c.loop-goal.goal-index c.loop-goal.done c.loop-goal.store (tuples_of c.loop-goal.bag.now)
    c.loop-goal.invariant.within c.loop-goal.invariant.there c.loop-goal-test.false (λ all. omega (arith, all, c.if-done-recorded.true))

pub returns-clause-yes : goal.returns-clause-yes
returns-clause-yes g c = λ _.
    goals_led (scene c.args.vars c.args.e.now c.args.context.now) c.args.goals.now c.args.recorded.now
    (moment c.args.store.now (tuples_of c.args.bag.now.now) []) c.loop-goal.goal-index c.loop-goal.done c.loop-goal.store (tuples_of c.loop-goal.bag.now)
    c.loop-goal.invariant.within c.loop-goal.invariant.there c.loop-goal-test.false (omega (arith, c.loop-goal.invariant.within, c.if-done-recorded.false))
