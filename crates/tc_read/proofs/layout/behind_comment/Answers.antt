use Rattle.tc_term.specs.Layouts.{at_block_end}
use Rattle.tc_read.proofs.Blanks.{block_goes_on, no_block}
use Rattle.tc_read.proofs.layout.behind_comment.Goals as goal

pub returns-in-Some-clause-some : goal.returns-in-Some-clause-some
returns-in-Some-clause-some c = (c.loop-behind.invariant c.in-Some.behind.now).1 (rw c.in-Some.ensures.some at_block_end)

pub returns-in-None-next_byte-clause-none : goal.returns-in-None-next_byte-clause-none
returns-in-None-next_byte-clause-none c = λ r t. no_block r (rw c.in-None-next_byte.ensures at ((c.loop-behind.invariant r).0 t))

pub loop-behind-preserved : goal.loop-behind-preserved
loop-behind-preserved c = λ r.
    let i = c.loop-behind.invariant r in
    let g = block_goes_on c.in-Some-next_byte.field-0-0 c.in-Some-next_byte.after.now r (rw c.in-Some-next_byte.ensures at c.in-None.ensures.none) in
    (λ t. g.0 (rw c.in-Some-next_byte.ensures at (i.0 t)), λ t. i.1 (rw c.in-Some-next_byte.ensures (g.1 t)))
