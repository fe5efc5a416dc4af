use Rattle.tc_visits.proofs.seats.go_on.Goals as goal

pub returns-in-Over-clause-goes_on : goal.returns-in-Over-clause-goes_on
returns-in-Over-clause-goes_on g c from before = c.in-Over.ensures.goes_on from (c.loop.invariant.underway from before)
