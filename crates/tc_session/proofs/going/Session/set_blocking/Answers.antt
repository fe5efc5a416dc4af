use Rattle.tc_session.proofs.Underway.{opened, same_link}
use Rattle.tc_session.proofs.going.Session.set_blocking.Goals as goal

pub returns-clause-underway : goal.returns-clause-underway
returns-clause-underway g c from before =
    let b = opened g.D.Desk.state g.L.Source.left g.L.Source.read_faults g.L.Source.sure g.L.Sink.taken g.L.Sink.write_faults g.L.Sink.sure from _ _ c.self.view_is before in
    record {
      held = b.held;
      holds = b.holds;
      so_far = same_link from _ _ _ b.so_far c.set_blocking.ensures.source c.set_blocking.ensures.sink;
    }
