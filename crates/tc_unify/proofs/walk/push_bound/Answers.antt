use Rattle.std.proofs.Common.{◌≡◌, ◌+◌, ◌++◌, ◌∷◌, [], get_or, take, subst}
use Rattle.std.proofs.lemmas.List.{get_or_default}
use Rattle.std.proofs.lemmas.List.Elements.{All-get_or}
use Rattle.tc_unify.specs.declared.walk.Step.TheVariants.{Enter}
use Rattle.tc_unify.specs.Arena.{IsNodeOf}
use Rattle.tc_unify.specs.WalkMarks.{IsStarted}
use Rattle.tc_unify.proofs.WalkMarks.{IsStarted-push, IsStarted-pass}
use Rattle.tc_unify.proofs.walk.push_bound.Goals.{then-is_bound+in_ok-push, else-is_bound}
use Rattle.tc_unify.proofs.walk.push_bound.Goals as goal

pub loop-node-preserved : goal.loop-node-preserved
loop-node-preserved c =
    let a = c.args.arena.now in
    let l = c.args.links.now in
    let nodes = c.args.nodes.now in
    let i = c.loop-node.node-index in
    let n = get_or nodes i 0 in
    let read = get_or_default nodes i 0 n c.loop-node-test.true in
    let before = c.loop-node.steps.items in
    let after = c.if-is_bound.steps.items in
    elim c.if-is_bound.branch [
      | then-is_bound+in_ok-push w ↦
          (let same = w.steps-is in
          let items = w.in_ok-push.ensures.items in
          let pushed : after ≡ before ++ Enter n ∷ [] = cc in
          IsStarted-push a l nodes before i n c.loop-node-test.true read c.loop-node.invariant after (All-get_or (IsNodeOf a) nodes i 0 c.loop-node-test.true c.requires.nodes) pushed)
      | else-is_bound w ↦
          (let same = w.steps-is in
          let items : before ≡ after = cc in
          subst (IsStarted a l (take (i + 1) nodes)) items
          (IsStarted-pass a l nodes before i n c.loop-node-test.true read c.loop-node.invariant (c.is_bound.ensures w.if-is_bound.false)))
    ]
