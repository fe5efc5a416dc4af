use Rattle.std.proofs.Common.{rules, ◌≡◌, ◌+◌, ◌≤◌, ◌<◌, length, map, sym, ap, ◌∙◌, subst, arith, drop_of_length-le}
use Rattle.tc_term.specs.TreeView.{tree_of}
use Rattle.tc_term.specs.Variables.{instance, var_bound}
use Rattle.tc_search.specs.Bindings.{MakesTuple}
use Rattle.tc_search.proofs.Arguments.{argument_fits, argument_ground}
use Rattle.tc_search.proofs.Walking.{MakesFrom, binds_same, binds_more, binds_met, makes_next, makes_compounds, never_lengths}
use Rattle.tc_search.proofs.matching.+agrees.Goals as goal

pub loop-i-init : goal.loop-i-init
loop-i-init t c =
    let ours = c.items-ours.result.now in
    let theirs = c.items-theirs.result.now in
    let s = c.in-Comp-Comp in
    let same : s.m ≡ s.n = search rules in
    record {
      ours = argument_fits c.args.term.now s.m s.left ours _ (ap tree_of s.is-0) c.items-ours.ensures.trees c.items-ours.ensures.depth c.requires.places;
      theirs = argument_ground c.args.tuple.now s.n s.right theirs (ap tree_of s.is-1) c.items-theirs.ensures.trees c.requires.tuple;
      ground = c.requires.ground;
      binds = binds_same c.args.bound.now (MakesTuple (tree_of c.args.term.now) (tree_of c.args.tuple.now)) (MakesFrom 0 ours theirs)
          (makes_compounds c.args.term.now c.args.tuple.now s.m s.n s.left s.right ours theirs (ap tree_of s.is-0) (ap tree_of s.is-1)
          c.items-ours.ensures.trees c.items-theirs.ensures.trees c.items-ours.ensures.some c.items-theirs.ensures.some same);
    }

pub loop-i-preserved : goal.loop-i-preserved
loop-i-preserved t c =
    let ours = c.items-ours.result.now in
    let theirs = c.items-theirs.result.now in
    let i = c.loop-i.i in
    let under : i < length theirs = (let even : length ours ≡ length theirs = search rules in let below = c.loop-i-test.true in omega arith) in
    record {
      ours = λ i x below e.
          let fit = c.loop-i.invariant.ours i x below e in
          (fit.0, subst (λ n. var_bound (tree_of x) ≤ n) (sym c.agrees.auto.bound) fit.1);
      theirs = c.loop-i.invariant.theirs;
      ground = c.agrees.ensures.ground;
      binds = binds_more c.args.bound.now c.loop-i.bound c.agrees.new.bound _ (MakesFrom i ours theirs) _ (MakesFrom (i + 1) ours theirs) c.loop-i.invariant.binds
          (makes_next i ours theirs c.index-ours-i.result c.index-theirs-i.result c.loop-i-test.true under c.index-ours-i.is c.index-theirs-i.is)
          (c.agrees.ensures.yes c.if-not-agrees.false);
    }

pub returns-after-loop-i-clause-yes : goal.returns-after-loop-i-clause-yes
returns-after-loop-i-clause-yes t c = λ yes.
    let ours = c.items-ours.result.now in
    let theirs = c.items-theirs.result.now in
    let over : length ours ≤ c.loop-i.i = omega (arith, c.loop-i.auto.i-end) in
    let even : length theirs ≤ length ours = search rules in
    let under : length theirs ≤ c.loop-i.i = omega arith in
    binds_met c.args.bound.now c.loop-i.bound _ (MakesFrom c.loop-i.i ours theirs)
    (λ f. ap (λ us. map (λ u. instance f (tree_of u)) us) (drop_of_length-le ours over) ∙ sym (ap (λ us. map (λ u. tree_of u) us) (drop_of_length-le theirs under))) c.loop-i.invariant.binds

pub returns-then-ours-theirs-clause-no : goal.returns-then-ours-theirs-clause-no
returns-then-ours-theirs-clause-no t c = λ no.
    let ours = c.items-ours.result.now in
    let theirs = c.items-theirs.result.now in
    let s = c.in-Comp-Comp in
    never_lengths c.args.term.now c.args.tuple.now s.m s.n s.left s.right ours theirs (ap tree_of s.is-0) (ap tree_of s.is-1)
    c.items-ours.ensures.trees c.items-theirs.ensures.trees c.items-ours.ensures.some c.items-theirs.ensures.some c.args.bound.now
    (λ even. c.if-ours-theirs.true even)
