use Rattle.test_session_rows.proofs.Seated.{SitDown}
use Rattle.test_session_rows.proofs.desks.Desks.new.Given as goal

abbrev pub invariant-loop-kit : goal.invariant-loop-kit
invariant-loop-kit l = SitDown l.site l.kit-iterator.rest.items l.desks.items
