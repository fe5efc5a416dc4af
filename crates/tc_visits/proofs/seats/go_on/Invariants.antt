use Rattle.std.proofs.Common.{◌≡◌, ◌<◌, length}
use Rattle.tc_session.specs.SoFar.{Moment}
use Rattle.tc_session.specs.Underway.{IsUnderway}
use Rattle.tc_visits.proofs.seats.go_on.Given as goal

-- a session that was underway is
abbrev pub invariant-loop : goal.invariant-loop
invariant-loop g l = record {
  can : (goal.iterator-loop g).can_next l.iterator';
  finite : (goal.iterator-loop g).is_finite l.iterator';
  buffer : 0 < length l.buffer;
  underway : (from : Moment)
      → IsUnderway g.D.Desk.state g.L.Source.left g.L.Source.read_faults g.L.Source.sure g.L.Sink.taken g.L.Sink.write_faults g.L.Sink.sure from l.fn.session
      → IsUnderway g.D.Desk.state g.L.Source.left g.L.Source.read_faults g.L.Source.sure g.L.Sink.taken g.L.Sink.write_faults g.L.Sink.sure from l.session;
  bond : g.D.Desk.bond l.session.desk ≡ g.D.Desk.bond l.fn.session.desk;
  sound : g.D.Desk.sound l.fn.session.desk → g.D.Desk.sound l.session.desk;
}
