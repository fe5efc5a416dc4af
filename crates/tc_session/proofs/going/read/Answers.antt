use Rattle.tc_session.proofs.Underway.{same_link}
use Rattle.tc_session.proofs.going.read.Goals as goal

pub returns-then-not-goes_on : goal.returns-then-not-goes_on
returns-then-not-goes_on g c from d before =
    c.pause.ensures from c.args.lines.now d (same_link from _ _ _ before c.goes_on.ensures.source c.goes_on.ensures.sink)

pub returns-in-Some : goal.returns-in-Some
returns-in-Some g c from d before =
    c.in-Some.ensures.steps from d (same_link from _ _ _ before c.goes_on.ensures.source c.goes_on.ensures.sink)

pub returns-in-None : goal.returns-in-None
returns-in-None g c from d before =
    c.in-None.ensures.steps from d (same_link from _ _ _ before c.goes_on.ensures.source c.goes_on.ensures.sink)
