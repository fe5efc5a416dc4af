use Rattle.std.proofs.Common.{◌≡◌, true, subst}
use Rattle.tc_session.specs.Underway.{Sitting}
use Rattle.tc_session.proofs.going.Session.into_parts.Goals as goal

pub returns-clause-free : goal.returns-clause-free
returns-clause-free g c =
    subst (λ (v : Sitting g.row.D.Denot g.row.L.Denot). (g.D.Desk.state v.desk).free ≡ true) c.self.view_is c.self.invariant.free
