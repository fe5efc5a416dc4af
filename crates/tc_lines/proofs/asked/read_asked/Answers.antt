use Rattle.std.proofs.Common.{arith}
use Rattle.tc_term.specs.TreeView.{tree_of}
use Rattle.tc_read.specs.Asked.{asked_of}
use Rattle.tc_lines.proofs.AskedLines.{asked-reads, reads-request}
use Rattle.tc_lines.proofs.asked.read_asked.Goals as goal

pub returns-in-Ok-Some : goal.returns-in-Ok-Some
returns-in-Ok-Some c =
    let line = c.args.line.now in
    let name = c.in_ok-name.name.now in
    let t = tree_of c.in-Ok-Some.t in
    reads-request line (asked_of name t) c.ask_at.result
    (asked-reads line name c.in_ok-name.text.now t c.in_ok-name.ensures (rw c.in-Ok-Some.field-0-is at c.in-Ok-Some.ensures) (c.has_quote.ensures c.if-has_quote.false) (omega arith))
    c.ask_at.ensures
