use Rattle.std.proofs.Common.{sym, ◌∙◌}
use Rattle.tc_read.proofs.QuotedBytes.{unquotes_none, unquotes_next, quote_first}
use Rattle.tc_read.proofs.quote.read_quoted.Goals as goal

pub returns-in-Fault-clause-none : goal.returns-in-Fault-clause-none
returns-in-Fault-clause-none c = λ bytes rest e.
    let i = c.loop-after.invariant in
    unquotes_none i.0 c.loop-after.rest.now c.loop-after.bytes.items i.2 c.in-Fault.ensures bytes rest (quote_first bytes rest i.0 (sym i.1 ∙ e))

pub loop-after-preserved : goal.loop-after-preserved
loop-after-preserved c =
    let i = c.loop-after.invariant in
    (i.0, i.1, unquotes_next i.0 c.loop-after.rest.now c.in-Byte.after.now c.loop-after.bytes.items c.push.new.self.items c.in-Byte.byte c.in_ok-push-in-Byte.ensures.items i.2 c.in-Byte.ensures)
