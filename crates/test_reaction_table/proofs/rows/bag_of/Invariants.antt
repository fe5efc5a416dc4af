use Rattle.std.proofs.Common.{◌≡◌}
use Rattle.test_reaction_table.proofs.rows.bag_of.Given as goal

abbrev pub invariant-loop-tuple : goal.invariant-loop-tuple
invariant-loop-tuple l = l.bag.next ≡ l.tuple-index
