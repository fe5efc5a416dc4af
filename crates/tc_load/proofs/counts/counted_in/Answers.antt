use Rattle.std.proofs.Common.{◌∙◌, ap, sym}
use Rattle.tc_load.specs.Counts.{count_of}
use Rattle.tc_load.proofs.Steps.{filter_map-first, filter_map-none}
use Rattle.tc_load.proofs.counts.counted_in.Goals as goal

pub returns-then-is_some : goal.returns-then-is_some
returns-then-is_some c =
    filter_map-first count_of c.args.tuples.now c.loop-tuple.tuple-index c.tuple-item.result c.count_of-number.result
    c.loop-tuple-test.true c.loop-tuple.invariant (c.count_of-number.ensures ∙ ap count_of c.tuple-item.is)
    (sym c.is_some.ensures ∙ c.if-is_some.true)

pub loop-tuple-preserved : goal.loop-tuple-preserved
loop-tuple-preserved c =
    filter_map-none count_of c.args.tuples.now c.loop-tuple.tuple-index c.tuple-item.result c.count_of-number.result
    c.loop-tuple-test.true c.loop-tuple.invariant (c.count_of-number.ensures ∙ ap count_of c.tuple-item.is)
    (sym c.is_some.ensures ∙ c.if-is_some.false)
