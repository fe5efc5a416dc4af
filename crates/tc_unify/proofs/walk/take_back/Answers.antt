use Rattle.std.proofs.Common.{◌<◌, arith, ◌∙◌, sym, subst, get_or, length, length-set, All}
use Rattle.std.proofs.lemmas.List.{get_or_default}
use Rattle.std.proofs.lemmas.List.Elements.{All-get_or}
use Rattle.tc_unify.specs.declared.walk.Mark.TheVariants.{Unseen}
use Rattle.tc_unify.proofs.WalkMarks.{unmark_step, unmark_end}
use Rattle.tc_unify.proofs.walk.take_back.Goals as goal

pub loop-node-preserved : goal.loop-node-preserved
loop-node-preserved c =
    let n = get_or c.args.seen.now c.loop-node.node-index 0 in
    let below : n < length c.loop-node.marks.items =
    All-get_or (λ k. k < length c.loop-node.marks.items) c.args.seen.now c.loop-node.node-index 0 c.loop-node-test.true c.loop-node.invariant.within in
    let size = length-set c.loop-node.marks.items n Unseen in
    record {
      listed = unmark_step c.loop-node.marks.items c.args.seen.now c.loop-node.node-index n c.loop-node-test.true
          (get_or_default c.args.seen.now c.loop-node.node-index 0 n c.loop-node-test.true) below c.loop-node.invariant.listed;
      size = size ∙ c.loop-node.invariant.size;
      within = subst (λ m. All (λ k. k < m) c.args.seen.now) (sym size) c.loop-node.invariant.within;
    }

pub returns-clause-unseen : goal.returns-clause-unseen
returns-clause-unseen c = unmark_end _ c.args.seen.now c.loop-node.node-index (omega arith) c.loop-node.invariant.listed
