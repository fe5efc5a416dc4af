use Rattle.std.proofs.Common.{ℕ, ◌≡◌, ◌<◌, ◌≤◌, ◌+◌, List, length, get_or, take, refl, sym, ap, subst, ◌∙◌, arith}
use Rattle.std.specs.List.{All}
use Rattle.std.proofs.lemmas.List.{take_all}
use Rattle.std.proofs.lemmas.Option.{slice_get_read}
use Rattle.tc_term.specs.Equations.{Equations, Solvable}
use Rattle.tc_term.specs.TreeView.{tree_of}
use Rattle.tc_term.specs.Variables.{var_bound}
use Rattle.tc_term.proofs.Numbered.{var_bound-pattern}
use Rattle.tc_unify.proofs.MetTerms.{met-same}
use Rattle.tc_model.specs.Choices.{TheFirst}
use Rattle.tc_model.specs.Reactions.{Rule, IsRule}
use Rattle.tc_model.specs.Goals.{Scene, IsStuck}
use Rattle.tc_model.specs.Bodies.{scene_of, beginning}
use Rattle.tc_model.specs.declared.goals.Goal.{Goal}
use Rattle.tc_model.proofs.Following.{body-tuples}
use Rattle.tc_bag.specs.Stock.{tuples_of}
use Rattle.tc_bag.proofs.Additions.{adds-younger-again}
use Rattle.tc_model.specs.Within.{HasVarsBelow, terms_of}
use Rattle.tc_body.specs.Moments.{moment_of, IsDone}
use Rattle.tc_body.specs.Costs.{goals_steps}
use Rattle.tc_body.proofs.Costs.{goals_same, goals_step}
use Rattle.tc_body.proofs.Leading.{begun_moment, failed_first, more_done}
use Rattle.tc_model.proofs.Rules.{rule_goals, rule_head, rule_vars}
use Rattle.tc_body.proofs.body.run_goals.Goals as goal

pub meet-requires-clause-bound : goal.meet-requires-clause-bound
meet-requires-clause-bound g c =
    let inside = (rule_head c.args.r.now c.head.ensures.rule).bound in
    omega (arith, inside, ap var_bound c.head.ensures.head, c.vars.ensures.vars)

pub meet-requires-clause-few : goal.meet-requires-clause-few
meet-requires-clause-few g c =
    let pattern = c.term.ensures.event.term in
    let bound = var_bound-pattern c.args.e.now.term pattern in
    let few = rule_vars c.args.r.now c.vars.ensures.rule in
    omega (arith, few, c.vars.ensures.vars, bound, pattern.template.few, ap var_bound c.term.ensures.term)

pub returns-then-not-branch-clause-failed : goal.returns-then-not-branch-clause-failed
returns-then-not-branch-clause-failed g c =
    failed_first c.args.r.now c.args.e.now c.args.context.now (tuples_of c.args.bag.now.now) c.new-effects.result.items
    c.goals-goals.ensures.rule.some c.new-effects.ensures.items
    (subst (λ (s : Equations). Solvable s.vars s.pairs → ⊥)
    (met-same c.vars.result c.args.r.now.vars (tree_of c.head.result.now) c.args.r.now.head c.term.result.now
    c.args.e.now.term c.vars.ensures.vars c.head.ensures.head c.term.ensures.term)
    (c.in_ok-meet.ensures.apart c.if-not-branch.true))

pub loop-i-init : goal.loop-i-init
loop-i-init g c =
    let q = c.in_ok-meet.ensures.met c.if-not-branch.false
    ∙ met-same c.vars.result c.args.r.now.vars (tree_of c.head.result.now) c.args.r.now.head c.term.result.now
    c.args.e.now.term c.vars.ensures.vars c.head.ensures.head c.term.ensures.term in
    record {
      leads = begun_moment c.args.r.now c.args.e.now c.args.context.now c.meet.new.self _ c.args.bag.now c.new-effects.result.items c.new-effects.ensures.items q;
      width = ap (λ (s : Equations). s.vars) q;
      solvable = c.in_ok-meet.ensures.solvable;
      saved = refl;
      next = omega arith;
      adds = record { rises = omega arith; added = λ r there older. there };
      counted = omega (arith, c.meet.ensures.most);
      rises = c.meet.ensures.rises;
    }

-- the goal of this place
below : (gs hs : List Goal) (i : ℕ) → gs ≡ hs → i < length gs → i < length hs
below gs hs i same inside = subst (λ (xs : List Goal). i < length xs) same inside

here : (gs hs : List Goal) (i : ℕ) (g : Goal) → gs ≡ hs → g ≡ get_or gs i g → g ≡ get_or hs i g
here gs hs i g same at = subst (λ (xs : List Goal). g ≡ get_or xs i g) same at

within_goal : (r : Rule) (i : ℕ) (g : Goal) (n : ℕ) → IsRule r → n ≡ r.vars → i < length r.goals → g ≡ get_or r.goals i g
    → All (HasVarsBelow n) (terms_of g)
within_goal r i g n rule same inside at =
    subst (λ m. All (HasVarsBelow m) (terms_of g)) (sym same)
    (subst (λ f. All (HasVarsBelow r.vars) (terms_of f)) (sym at) (rule_goals r rule i g inside))

pub step-requires-clause-goal : goal.step-requires-clause-goal
step-requires-clause-goal g c =
    within_goal c.args.r.now c.loop-i.i c.index-goals-i.result c.vars-in-loop-i.result c.goals-goals.ensures.rule c.vars-in-loop-i.ensures.vars
    (below c.goals-goals.result.now c.args.r.now.goals c.loop-i.i c.goals-goals.ensures.goals c.loop-i-test.true)
    (here c.goals-goals.result.now c.args.r.now.goals c.loop-i.i c.index-goals-i.result c.goals-goals.ensures.goals c.index-goals-i.is)

pub returns-then-not-branch-2-clause-failed : goal.returns-then-not-branch-2-clause-failed
returns-then-not-branch-2-clause-failed g c =
    let r = c.args.r.now in
    let x = c.index-goals-i.result in
    let end = moment_of c.loop-i.store c.loop-i.bag c.loop-i.effects.items in
    let scene : ℕ → Scene = λ n. record { vars = n; event = c.args.e.now; setting = c.args.context.now } in
    record {
      place = c.loop-i.i;
      at = refl;
      goal = x;
      stands = slice_get_read r.goals (length r.goals) c.loop-i.i x refl
          (below c.goals-goals.result.now r.goals c.loop-i.i c.goals-goals.ensures.goals c.loop-i-test.true)
          (here c.goals-goals.result.now r.goals c.loop-i.i x c.goals-goals.ensures.goals c.index-goals-i.is);
      end = end;
      leads = c.loop-i.invariant.leads;
      recorded = sym (c.in_ok-step.ensures.effects c.if-not-branch-2.true);
      stuck = subst (λ n. IsStuck (scene n) x end) c.vars-in-loop-i.ensures.vars (c.in_ok-step.ensures.stuck c.if-not-branch-2.true);
    }

pub loop-i-preserved : goal.loop-i-preserved
loop-i-preserved g c =
    let r = c.args.r.now in
    let x = c.index-goals-i.result in
    let m = moment_of c.loop-i.store c.loop-i.bag c.loop-i.effects.items in
    let end = moment_of c.step.new.store c.step.new.bag c.step.new.effects.items in
    let scene : ℕ → Scene = λ n. record { vars = n; event = c.args.e.now; setting = c.args.context.now } in
    record {
      leads = more_done r c.args.e.now c.args.context.now (tuples_of c.args.bag.now.now) c.loop-i.i x m end
          (below c.goals-goals.result.now r.goals c.loop-i.i c.goals-goals.ensures.goals c.loop-i-test.true)
          (here c.goals-goals.result.now r.goals c.loop-i.i x c.goals-goals.ensures.goals c.index-goals-i.is)
          c.loop-i.invariant.leads
          (subst (λ n. IsDone (scene n) x m end) c.vars-in-loop-i.ensures.vars (c.in_ok-step.ensures.done c.if-not-branch-2.false));
      width = c.step.ensures.vars ∙ c.loop-i.invariant.width;
      solvable = c.step.ensures.solvable;
      saved = c.step.ensures.saved ∙ c.loop-i.invariant.saved;
      next = omega (arith, c.step.ensures.next, c.loop-i.invariant.next);
      adds = adds-younger-again c.args.bag.now c.loop-i.bag c.step.new.bag c.loop-i.invariant.adds c.step.ensures.adds;
      counted =
          let done = c.in_ok-step.ensures.done c.if-not-branch-2.false in
          let more = goals_step TheFirst (scene_of r c.args.e.now c.args.context.now) r.goals (beginning r c.args.e.now (tuples_of c.args.bag.now.now)) refl c.loop-i.i x
          (below c.goals-goals.result.now r.goals c.loop-i.i c.goals-goals.ensures.goals c.loop-i-test.true)
          (here c.goals-goals.result.now r.goals c.loop-i.i x c.goals-goals.ensures.goals c.index-goals-i.is) m c.loop-i.invariant.leads done.move end done.leads in
          omega (arith, more, c.loop-i.invariant.counted, c.step.ensures.counted);
      rises = omega (arith, c.loop-i.invariant.rises, c.step.ensures.rises);
    }

pub returns-clause-tuples : goal.returns-clause-tuples
returns-clause-tuples g c =
    body-tuples TheFirst (scene_of c.args.r.now c.args.e.now c.args.context.now) (take c.loop-i.i c.args.r.now.goals)
    (beginning c.args.r.now c.args.e.now (tuples_of c.args.bag.now.now))
    (moment_of c.loop-i.store c.loop-i.bag c.loop-i.effects.items) refl c.loop-i.invariant.leads

pub returns-in_err-step-clause-adds : goal.returns-in_err-step-clause-adds
returns-in_err-step-clause-adds g c =
    adds-younger-again c.args.bag.now c.loop-i.bag c.step.new.bag c.loop-i.invariant.adds c.step.ensures.adds

pub returns-then-not-branch-2-clause-adds : goal.returns-then-not-branch-2-clause-adds
returns-then-not-branch-2-clause-adds g c =
    adds-younger-again c.args.bag.now c.loop-i.bag c.step.new.bag c.loop-i.invariant.adds c.step.ensures.adds

pub returns-then-not-branch-2-clause-counted_failed : goal.returns-then-not-branch-2-clause-counted_failed
returns-then-not-branch-2-clause-counted_failed g c =
    let r = c.args.r.now in
    let x = c.index-goals-i.result in
    let end = moment_of c.loop-i.store c.loop-i.bag c.loop-i.effects.items in
    let old = tuples_of c.args.bag.now.now in
    let same = goals_same TheFirst (scene_of r c.args.e.now c.args.context.now) r.goals (beginning r c.args.e.now old) refl c.loop-i.i x
    (below c.goals-goals.result.now r.goals c.loop-i.i c.goals-goals.ensures.goals c.loop-i-test.true)
    (here c.goals-goals.result.now r.goals c.loop-i.i x c.goals-goals.ensures.goals c.index-goals-i.is) end c.loop-i.invariant.leads in
    let kept = ap (λ es. goals_steps (take (c.loop-i.i + 1) r.goals) es old) (c.in_ok-step.ensures.effects c.if-not-branch-2.true) in
    omega (arith, same, kept, c.loop-i.invariant.counted, c.step.ensures.counted)

pub returns-clause-counted : goal.returns-clause-counted
returns-clause-counted g c =
    let goals = c.args.r.now.goals in
    let over : length goals ≤ c.loop-i.i = omega (arith, ap length c.goals-goals.ensures.goals, c.loop-i-test.false) in
    let all = ap (λ gs. goals_steps gs c.loop-i.effects.items (tuples_of c.args.bag.now.now)) (take_all c.loop-i.i goals over) in
    omega (arith, all, c.loop-i.invariant.counted)
