use Rattle.tc_session.proofs.session.step.Goals as goal

pub returns-in-Some-clause-steps : goal.returns-in-Some-clause-steps
returns-in-Some-clause-steps g c from before = c.in-Some.ensures.steps from c.args.lines.now (g.D.Desk.state c.args.desk.now) before
