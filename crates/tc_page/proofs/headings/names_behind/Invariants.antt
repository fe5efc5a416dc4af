use Rattle.std.proofs.Common.{◌≡◌}
use Rattle.tc_page.proofs.headings.names_behind.Given as goal

abbrev pub invariant-loop-line : goal.invariant-loop-line
invariant-loop-line l = l.known ≡ l.names.items
