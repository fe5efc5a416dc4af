use Rattle.std.proofs.Common.{List, ℕ, length}
use Rattle.tc_term.specs.Layouts.{ToLineEnd}
use Rattle.tc_read.proofs.layout.behind_line.Given as goal

abbrev pub invariant-loop-byte : goal.invariant-loop-byte
invariant-loop-byte l = (r : List ℕ) → ToLineEnd l.rest r → ToLineEnd l.text r

abbrev pub decreases-loop-byte : goal.decreases-loop-byte
decreases-loop-byte l = length l.rest
