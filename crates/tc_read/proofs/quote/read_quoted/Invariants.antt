use Rattle.std.proofs.Common.{◌≡◌, ◌∷◌, List, ℕ, drop, length}
use Rattle.tc_read.proofs.QuotedBytes.{Unquotes}
use Rattle.tc_read.proofs.quote.read_quoted.Given as goal

abbrev pub invariant-loop-after : goal.invariant-loop-after
invariant-loop-after l = (after : List ℕ) × (drop l.from l.text ≡ 39 ∷ after) × Unquotes after l.rest l.bytes.items

abbrev pub decreases-loop-after : goal.decreases-loop-after
decreases-loop-after l = length l.rest
