use Rattle.std.proofs.Common.{length}
use Rattle.test_shared_rows.specs.Plays.{Moves}
use Rattle.test_shared_rows.proofs.playing.make_all.Given as goal

abbrev pub invariant-loop-next : goal.invariant-loop-next
invariant-loop-next g l = Moves l.centre l.fn.pass (length l.notes.items) l.pass
