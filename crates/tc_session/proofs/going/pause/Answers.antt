use Rattle.tc_session.proofs.going.pause.Goals as goal

pub returns-in-Some : goal.returns-in-Some
returns-in-Some g c from held d before = c.in-Some.ensures.steps from held d before

pub returns-in-None : goal.returns-in-None
returns-in-None g c from held d before = c.in-None.ensures.steps from held d before
