use Rattle.tc_term.specs.Layouts.{in_line, at_end}
use Rattle.tc_read.proofs.Blanks.{line_feed_ends}
use Rattle.tc_read.proofs.layout.behind_line.Goals as goal

pub returns-then-byte-eq10 : goal.returns-then-byte-eq10
returns-then-byte-eq10 c = c.loop-byte.invariant c.in-Some.after.now (rw c.in-Some.ensures (line_feed_ends c.in-Some.byte c.in-Some.after.now c.if-byte-eq10.true))

pub loop-byte-preserved : goal.loop-byte-preserved
loop-byte-preserved c = λ r t. c.loop-byte.invariant r (rw c.in-Some.ensures (in_line c.if-byte-eq10.false t))

pub returns-in-None : goal.returns-in-None
returns-in-None c = c.loop-byte.invariant c.loop-byte.rest.now (rw c.in-None.ensures at_end)
