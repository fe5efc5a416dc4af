use Rattle.tc_term.specs.Layouts.{layout, no_layout}
use Rattle.tc_read.proofs.Blanks.{piece_shorter}
use Rattle.tc_read.proofs.layout.behind_layout.Goals as goal

pub loop-after-smaller : goal.loop-after-smaller
loop-after-smaller c = piece_shorter c.in-Some.ensures.some

pub loop-after-preserved : goal.loop-after-preserved
loop-after-preserved c = λ r t. c.loop-after.invariant r (layout c.in-Some.ensures.some t)

pub returns-in-None : goal.returns-in-None
returns-in-None c = c.loop-after.invariant c.loop-after.rest.now (no_layout c.in-None.ensures.none)
