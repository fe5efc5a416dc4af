use Rattle.tc_workers.proofs.Seating.{Seating}
use Rattle.tc_site.proofs.Configured.{permits_by}
use Rattle.tc_workers.proofs.crew.at_desks.Given as goal

abbrev pub invariant-loop-kit : goal.invariant-loop-kit
invariant-loop-kit l = Seating permits_by l.site l.agents l.kit-iterator.rest.items l.crew.items
