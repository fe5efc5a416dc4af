use Rattle.std.proofs.Common.{ap, ◌∙◌}
use Rattle.tc_desk.specs.Logs.{any_pending}
use Rattle.tc_session.proofs.Underway.{pends_is}
use Rattle.tc_session.specs.Underway.{Sitting}
use Rattle.tc_session.proofs.going.Session.is_pending.Goals as goal

pub returns : goal.returns
returns g c =
    c.is_some.ensures
    ∙ pends_is (g.D.Desk.state c.self.inside.desk).log c.self.inside.pending c.self.invariant.pends
    ∙ ap (λ (v : Sitting g.row.D.Denot g.row.L.Denot). any_pending (g.D.Desk.state v.desk).log) c.self.view_is
