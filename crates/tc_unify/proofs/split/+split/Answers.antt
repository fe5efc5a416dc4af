use Rattle.std.proofs.Common.{rules, ◌≡◌, ◌+◌, ◌≤◌, ◌<◌, length, sym, ap, ◌∙◌, subst, arith, drop_of_length-le}
use Rattle.tc_term.specs.TreeView.{tree_of}
use Rattle.tc_term.specs.Variables.{raised, var_bound}
use Rattle.tc_unify.specs.Arena.{Grows}
use Rattle.tc_unify.specs.Splits.{AreEqual, AreEqualFrom, valued}
use Rattle.tc_unify.proofs.Arenas.{Grows-itself, Grows-trans}
use Rattle.tc_unify.proofs.Copied.{args_fit}
use Rattle.tc_unify.proofs.Splitting.{asks_same, asks_more, asks_met, equal_next, equal_compounds, never_lengths}
use Rattle.tc_unify.proofs.split.+split.Goals as goal

pub loop-i-init : goal.loop-i-init
loop-i-init t c =
    let a = c.args.arena.now in
    let ours = c.items-ours.result.now in
    let theirs = c.items-theirs.result.now in
    let s = c.in-Comp-Comp in
    let same : s.m ≡ s.n = search rules in
    record {
      arena = c.requires.arena;
      grows = Grows-itself a;
      nodes = c.requires.nodes;
      ours = args_fit c.args.s_shift c.args.s.now s.m s.left ours _ (ap tree_of s.is-0) c.items-ours.ensures.trees c.items-ours.ensures.depth c.requires.left;
      theirs = args_fit c.args.t_shift c.args.t.now s.n s.right theirs _ (ap tree_of s.is-1) c.items-theirs.ensures.trees c.items-theirs.ensures.depth c.requires.right;
      asks = asks_same a c.args.waiting.now.items (AreEqual (raised c.args.s_shift (tree_of c.args.s.now)) (raised c.args.t_shift (tree_of c.args.t.now))) (AreEqualFrom 0 c.args.s_shift ours c.args.t_shift theirs)
          (equal_compounds c.args.s_shift c.args.t_shift c.args.s.now c.args.t.now s.m s.n s.left s.right ours theirs (ap tree_of s.is-0) (ap tree_of s.is-1)
          c.items-ours.ensures.trees c.items-theirs.ensures.trees c.items-ours.ensures.some c.items-theirs.ensures.some same);
    }

pub loop-i-preserved : goal.loop-i-preserved
loop-i-preserved t c =
    let a = c.args.arena.now in
    let b = c.loop-i.arena in
    let n = c.split.new.arena in
    let ours = c.items-ours.result.now in
    let theirs = c.items-theirs.result.now in
    let grows : Grows b n = c.split.ensures.grows in
    let under : c.loop-i.i < length theirs = (let even : length ours ≡ length theirs = search rules in let below = c.loop-i-test.true in omega arith) in
    record {
      arena = c.split.ensures.arena;
      grows = Grows-trans a b n c.loop-i.invariant.grows grows;
      nodes = c.in_ok-split-in-Comp-Comp.ensures.nodes;
      ours = λ i x h e.
          let fit = c.loop-i.invariant.ours i x h e in
          (fit.0, subst (λ k. var_bound (raised c.args.s_shift (tree_of x)) ≤ k) (sym grows.variables) fit.1);
      theirs = λ i x h e.
          let fit = c.loop-i.invariant.theirs i x h e in
          (fit.0, subst (λ k. var_bound (raised c.args.t_shift (tree_of x)) ≤ k) (sym grows.variables) fit.1);
      asks = asks_more a b n c.args.waiting.now.items c.loop-i.waiting.items c.split.new.waiting.items
          _ (AreEqualFrom c.loop-i.i c.args.s_shift ours c.args.t_shift theirs) _ (AreEqualFrom (c.loop-i.i + 1) c.args.s_shift ours c.args.t_shift theirs) c.loop-i.invariant.asks
          (equal_next c.loop-i.i c.args.s_shift c.args.t_shift ours theirs c.index-ours-i.result c.index-theirs-i.result c.loop-i-test.true under c.index-ours-i.is c.index-theirs-i.is)
          (c.in_ok-split-in-Comp-Comp.ensures.asks c.if-not-branch.false);
    }

pub returns-after-loop-i-clause-asks : goal.returns-after-loop-i-clause-asks
returns-after-loop-i-clause-asks t c = λ may.
    let ours = c.items-ours.result.now in
    let theirs = c.items-theirs.result.now in
    let over : length ours ≤ c.loop-i.i = omega (arith, c.loop-i.auto.i-end) in
    let even : length theirs ≤ length ours = search rules in
    let under : length theirs ≤ c.loop-i.i = omega arith in
    asks_met c.args.arena.now c.loop-i.arena c.args.waiting.now.items c.loop-i.waiting.items _ (AreEqualFrom c.loop-i.i c.args.s_shift ours c.args.t_shift theirs)
    (λ v. ap (valued v c.args.s_shift) (drop_of_length-le ours over) ∙ sym (ap (valued v c.args.t_shift) (drop_of_length-le theirs under))) c.loop-i.invariant.asks

pub returns-then-ours-theirs-clause-never : goal.returns-then-ours-theirs-clause-never
returns-then-ours-theirs-clause-never t c = λ no.
    let ours = c.items-ours.result.now in
    let theirs = c.items-theirs.result.now in
    let s = c.in-Comp-Comp in
    never_lengths c.args.s_shift c.args.t_shift c.args.s.now c.args.t.now s.m s.n s.left s.right ours theirs (ap tree_of s.is-0) (ap tree_of s.is-1)
    c.items-ours.ensures.trees c.items-theirs.ensures.trees c.items-ours.ensures.some c.items-theirs.ensures.some c.args.arena.now c.args.waiting.now.items
    (λ even. c.if-ours-theirs.true even)
