use Rattle.std.proofs.Common.{◌+◌, List, take, drop, sym, subst, ◌∙◌, arith}
use Rattle.std.proofs.lemmas.Bool.{true≢false}
use Rattle.tc_lists.proofs.Parts.{split_read, take_read}
use Rattle.tc_bag.specs.Stock.{tuples_of}
use Rattle.tc_bag.proofs.Additions.{adds-younger-again}
use Rattle.tc_model.specs.Choices.{AnyOne}
use Rattle.tc_model.specs.Cascades.{Begins}
use Rattle.tc_model.specs.declared.items.Item.{Item}
use Rattle.tc_model.proofs.Following.{cascade-tuples}
use Rattle.tc_replay.specs.Replays.{IsCascade, wave_of}
use Rattle.tc_replay.proofs.Cascading.{begins-more, begins-none, begins-all}
use Rattle.tc_replay.proofs.Endings.{never-true, ends, keeps, begins, leaves}
use Rattle.tc_replay.proofs.cascade.is_cascade.Goals as goal

pub returns-then-not-keeps_budget-clause-exact : goal.returns-then-not-keeps_budget-clause-exact
returns-then-not-keeps_budget-clause-exact c =
    let us = tuples_of c.args.bag.now.now in
    never-true (IsCascade c.args.ending c.args.spec.now c.args.context.now c.args.budget c.args.e.now us c.args.items.now) (λ is. true≢false
    (sym (c.keeps_budget.ensures.1 (keeps c.args.spec.now c.args.context.now c.args.budget c.args.e.now us c.args.items.now c.args.ending is))
    ∙ c.if-not-keeps_budget.true))

pub returns-then-not-branch-clause-exact : goal.returns-then-not-branch-clause-exact
returns-then-not-branch-clause-exact c =
    let cs = c.args.spec.now in
    let us = tuples_of c.args.bag.now.now in
    let items = c.args.items.now in
    let i = c.loop-item.item-index in
    let item = c.item-item.result in
    never-true (IsCascade c.args.ending cs c.args.context.now c.args.budget c.args.e.now us items) (λ is.
    let all = begins cs c.args.context.now c.args.budget c.args.e.now us items c.args.ending is in
    begins-none cs AnyOne c.args.context.now c.args.e.now us (take i items) item (drop (i + 1) items) (wave_of c.loop-item.bag c.loop-item.triggered) all.0
    c.loop-item.invariant.begins (c.in_ok-is_tried.ensures.no c.if-not-branch.true)
    (subst (λ (js : List Item). Begins AnyOne cs c.args.context.now c.args.e.now us js all.0)
    (split_read items i item c.loop-item-test.true c.item-item.is) all.1))

pub returns-then-not-branch-clause-adds : goal.returns-then-not-branch-clause-adds
returns-then-not-branch-clause-adds c =
    adds-younger-again c.args.bag.now c.loop-item.bag c.is_tried.new.bag c.loop-item.invariant.adds c.is_tried.ensures.adds

pub loop-item-preserved : goal.loop-item-preserved
loop-item-preserved c =
    let cs = c.args.spec.now in
    let us = tuples_of c.args.bag.now.now in
    let items = c.args.items.now in
    let i = c.loop-item.item-index in
    let item = c.item-item.result in
    let next = wave_of c.is_tried.new.bag c.is_tried.new.triggered in
    record {
      begins = subst (λ (js : List Item). Begins AnyOne cs c.args.context.now c.args.e.now us js next)
          (sym (take_read items i item c.loop-item-test.true c.item-item.is))
          (begins-more cs AnyOne c.args.context.now c.args.e.now us (take i items) item (wave_of c.loop-item.bag c.loop-item.triggered) next
          c.loop-item.invariant.begins (c.in_ok-is_tried.ensures.yes c.if-not-branch.false));
      saved = c.is_tried.ensures.saved ∙ c.loop-item.invariant.saved;
      next = omega (arith, c.is_tried.ensures.room, c.loop-item.invariant.next);
      adds = adds-younger-again c.args.bag.now c.loop-item.bag c.is_tried.new.bag c.loop-item.invariant.adds c.is_tried.ensures.adds;
    }

pub returns-clause-exact : goal.returns-clause-exact
returns-clause-exact c =
    let cs = c.args.spec.now in
    let us = tuples_of c.args.bag.now.now in
    let items = c.args.items.now in
    let w = wave_of c.loop-item.bag c.loop-item.triggered in
    let all = begins-all cs AnyOne c.args.context.now c.args.e.now us items c.loop-item.item-index w (omega (arith, c.loop-item-test.false)) c.loop-item.invariant.begins in (
      λ yes. ends cs c.args.context.now c.args.budget c.args.e.now us items c.args.ending w all
          (c.keeps_budget.ensures.0 c.if-not-keeps_budget.false) (c.leaves_members.ensures.0 yes),
      λ is. c.leaves_members.ensures.1 (leaves cs c.args.context.now c.args.budget c.args.e.now us items c.args.ending w all is),
    )

pub returns-clause-tuples : goal.returns-clause-tuples
returns-clause-tuples c = λ _.
    let us = tuples_of c.args.bag.now.now in
    let w = wave_of c.loop-item.bag c.loop-item.triggered in
    cascade-tuples AnyOne c.args.spec.now c.args.context.now c.args.e.now us c.args.items.now w
    (begins-all c.args.spec.now AnyOne c.args.context.now c.args.e.now us c.args.items.now c.loop-item.item-index w (omega (arith, c.loop-item-test.false))
    c.loop-item.invariant.begins)
