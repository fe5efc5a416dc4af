use Rattle.std.proofs.Common.{◌≡◌, ◌++◌}
use Rattle.test_shared_rows.specs.Plays.{passes_of}
use Rattle.test_shared_rows.proofs.together.apart.Given as goal

abbrev pub invariant-loop-one : goal.invariant-loop-one
invariant-loop-one l = l.ended.items ++ passes_of l.one-iterator.rest.items ≡ passes_of l.fn.played.items
