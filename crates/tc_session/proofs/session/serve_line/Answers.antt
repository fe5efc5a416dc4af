use Rattle.tc_session.proofs.SoFar.{answered}
use Rattle.tc_session.proofs.Over.{none_over, quit_over, unwritten_over}
use Rattle.tc_session.proofs.session.serve_line.Goals as goal

pub returns-in-Some-clause-steps : goal.returns-in-Some-clause-steps
returns-in-Some-clause-steps g c from held rest begins before = c.in-Some.ensures.steps from held (g.D.Desk.state c.args.desk.now) before

pub returns-in-GoesOn-clause-steps : goal.returns-in-GoesOn-clause-steps
returns-in-GoesOn-clause-steps g c from held rest begins before =
    let came = c.in-GoesOn.ensures.came in
    answered from _ c.args.asked came.0 rest _ _ (c.in_default.ensures.steps from held (g.D.Desk.state c.args.desk.now) before) begins came.1 c.answer.ensures.kept came.2

pub returns-in-Quits-clause-steps : goal.returns-in-Quits-clause-steps
returns-in-Quits-clause-steps g c from held rest begins before =
    let came = c.in-Quits.ensures.came in
    quit_over from _ c.args.asked _ _ _ rest _ _ (c.in_default.ensures.steps from held (g.D.Desk.state c.args.desk.now) before) begins came.0 came.1
    c.finish.ensures.source came.2 c.finish.ensures.finishes

pub returns-in-NoMemory-clause-steps : goal.returns-in-NoMemory-clause-steps
returns-in-NoMemory-clause-steps g c from held rest begins before =
    let came = c.in-NoMemory.ensures.came in
    none_over from _ c.args.asked _ _ _ rest _ _ (c.in_default.ensures.steps from held (g.D.Desk.state c.args.desk.now) before) begins came.0 c.answer.ensures.kept
    c.finish-in-NoMemory.ensures.source came.1 c.finish-in-NoMemory.ensures.finishes

pub returns-in-Unwritten-clause-steps : goal.returns-in-Unwritten-clause-steps
returns-in-Unwritten-clause-steps g c from held rest begins before =
    let came = c.in-Unwritten.ensures.came in
    unwritten_over from _ c.args.asked came.0 _ _ _ rest _ _ (c.in_default.ensures.steps from held (g.D.Desk.state c.args.desk.now) before) begins came.1 c.answer.ensures.kept
    c.finish-in-Unwritten.ensures.source came.2 c.finish-in-Unwritten.ensures.finishes
