use Rattle.tc_lists.proofs.Elements.{All-take_read, All-from_take}
use Rattle.tc_term.specs.Tree.{IsTuple}
use Rattle.tc_model.proofs.origins.are_tuples.Goals as goal

pub loop-tuple-preserved : goal.loop-tuple-preserved
loop-tuple-preserved c =
    All-take_read IsTuple c.args.tuples.now c.loop-tuple.tuple-index c.tuple-item.result c.loop-tuple-test.true
    c.tuple-item.is c.loop-tuple.invariant c.term-term.ensures.tuple

pub returns : goal.returns
returns c = All-from_take IsTuple c.args.tuples.now c.loop-tuple.tuple-index c.loop-tuple-test.false c.loop-tuple.invariant
