use Rattle.test_session_rows.proofs.Seated.{StandUp}
use Rattle.test_session_rows.proofs.desks.Desks.end.Given as goal

abbrev pub invariant-loop-desk : goal.invariant-loop-desk
invariant-loop-desk l = StandUp l.fn.self.site.now l.desk-iterator.rest.items l.ended.items
