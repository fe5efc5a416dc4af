use Rattle.tc_visits.proofs.seats.finish.Goals as goal

pub returns-in-Over-clause-over : goal.returns-in-Over-clause-over
returns-in-Over-clause-over g c from before = c.in-Over.ensures.goes_on from (c.loop.invariant.underway from before)
