use Rattle.std.proofs.Common.{sym}
use Rattle.tc_term.specs.Layouts.{blank, line}
use Rattle.tc_read.proofs.layout.behind_piece.Goals as goal

pub returns-then-is_blank-clause-some : goal.returns-then-is_blank-clause-some
returns-then-is_blank-clause-some c = rw c.in_ok-first.ensures (blank (sym c.if-is_blank.ensures))

pub returns-in-37-clause-some : goal.returns-in-37-clause-some
returns-in-37-clause-some c = rw (c.in_ok-first.ensures, c.in-37.is) (line c.behind_line.ensures)
