use Rattle.std.proofs.Common.{◌∙◌, ◌++◌, None, ap, get_or}
use Rattle.tc_load.specs.Summaries.{tally_of, tally_text}
use Rattle.tc_load.proofs.Steps.{written-items}
use Rattle.tc_load.proofs.summaries.write_tallies.Goals as goal

pub loop-k-preserved : goal.loop-k-preserved
loop-k-preserved c =
    written-items (tally_of c.args.words.now) c.args.counted.now c.loop-k.k None c.args.into.now.items
    c.loop-k.into.items c.write_tally.new.into.items c.loop-k-test.true c.loop-k.invariant
    (c.in_ok-write_tally.ensures.appended
    ∙ ap (λ drawn. c.loop-k.into.items ++ tally_text c.loop-k.k drawn (get_or c.args.counted.now c.loop-k.k None)) c.drawn_in.ensures)
