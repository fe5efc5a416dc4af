use Rattle.std.proofs.Common.{◌≡◌}
use Rattle.test_read_texts.proofs.rows.distinct.Given as goal

abbrev pub invariant-loop-name : goal.invariant-loop-name
invariant-loop-name l = l.known ≡ l.distinct.items
