use Rattle.std.proofs.Common.{List, ℕ, length, ◌↔◌}
use Rattle.tc_term.specs.Layouts.{ToBlockEnd}
use Rattle.tc_read.proofs.layout.behind_comment.Given as goal

abbrev pub invariant-loop-behind : goal.invariant-loop-behind
invariant-loop-behind l = (r : List ℕ) → ToBlockEnd l.text r ↔ ToBlockEnd l.rest r

abbrev pub decreases-loop-behind : goal.decreases-loop-behind
decreases-loop-behind l = length l.rest
