use Rattle.std.proofs.Common.{sym, ◌∙◌}
use Rattle.tc_lines.proofs.AskedLines.{quote-none}
use Rattle.tc_lines.proofs.asked.has_quote.Goals as goal

pub returns : goal.returns
returns c = λ e. quote-none c.args.line.now c.memchr.result c.memchr.ensures (sym c.is_some.ensures ∙ e)
