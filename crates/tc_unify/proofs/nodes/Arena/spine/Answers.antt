use Rattle.std.proofs.Common.{sym, subst, All}
use Rattle.std.proofs.lemmas.List.Elements.{All-push}
use Rattle.tc_unify.specs.Nodes.{label}
use Rattle.tc_unify.specs.Arena.{IsNodeOf, shape_of}
use Rattle.tc_unify.proofs.Spines.{term_inside, head_smaller, atom_read, atom_outer, spine_next, spine_tree}
use Rattle.tc_unify.proofs.nodes.Arena.spine.Goals.{else-loop-atom-test, then-loop-atom-test+in_default}
use Rattle.tc_unify.proofs.nodes.Arena.spine.Goals as goal

pub loop-atom-smaller : goal.loop-atom-smaller
loop-atom-smaller c =
    let a = c.args.self.now in
    head_smaller a c.loop-atom.atom c.in-Apply.head c.in-Apply.argument c.index.result.now c.requires.arena (term_inside a c.loop-atom.atom c.loop-atom.invariant.inside c.loop-atom-test.true) c.index.ensures c.in-Apply.is

pub loop-atom-preserved : goal.loop-atom-preserved
loop-atom-preserved c =
    let a = c.args.self.now in
    let before = c.loop-atom.invariant in
    let next = spine_next a c.loop-atom.atom c.in-Apply.head c.in-Apply.argument c.index.result.now c.requires.arena (term_inside a c.loop-atom.atom before.inside c.loop-atom-test.true) c.index.ensures c.in-Apply.is in
    let pushed = c.in_ok-push.ensures.items in
    record {
      inside = next.1;
      head = next.0;
      arguments = subst (All (IsNodeOf a)) (sym pushed) (All-push (IsNodeOf a) c.loop-atom.arguments.items c.in-Apply.argument before.arguments next.2);
      tree = λ v. spine_tree (label (shape_of a) v) (label (shape_of a) v c.args.node) c.loop-atom.atom c.in-Apply.head c.in-Apply.argument c.loop-atom.arguments.items _ (before.tree v) (next.3 v) pushed;
    }

pub returns : goal.returns
returns c =
    let a = c.args.self.now in
    let before = c.loop-atom.invariant in
    record {
      atom = before.inside;
      plain =
          elim c.loop-atom-test.branch [
            | else-loop-atom-test w ↦ atom_outer a c.loop-atom.atom w.loop-atom-test.false before.head
            | then-loop-atom-test+in_default w ↦
                atom_read a c.loop-atom.atom w.index.result.now c.requires.arena (term_inside a c.loop-atom.atom before.inside w.loop-atom-test.true) w.index.ensures before.head w.in_default.not-Apply
          ];
      arguments = before.arguments;
      tree = before.tree;
    }
