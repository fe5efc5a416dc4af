use Rattle.test_site_rows.proofs.Seated.{Seated}
use Rattle.tc_site.proofs.Configured.{permits_by}
use Rattle.test_site_rows.proofs.driving.at_desks.Given as goal

abbrev pub invariant-loop-kit : goal.invariant-loop-kit
invariant-loop-kit l = Seated permits_by l.site l.fn.agents l.kit-iterator.rest.items l.agents.rest.now l.crew.items
