use Rattle.std.proofs.Common.{List, ℕ, length}
use Rattle.tc_term.specs.Layouts.{Layout}
use Rattle.tc_read.proofs.layout.behind_layout.Given as goal

abbrev pub invariant-loop-after : goal.invariant-loop-after
invariant-loop-after l = (r : List ℕ) → Layout l.rest r → Layout l.text r

abbrev pub decreases-loop-after : goal.decreases-loop-after
decreases-loop-after l = length l.rest
