use Rattle.std.proofs.Common.{◌≡◌, ◌<◌, [], length}
use Rattle.tc_desk.specs.Desks.{Keeps}
use Rattle.tc_session.specs.Answering.{PendsAt}
use Rattle.tc_session.specs.SoFar.{IsSoFar, moment}
use Rattle.tc_session.proofs.session.serve_session.Given as goal

-- the session has come so far, at a desk that is free
abbrev pub invariant-loop : goal.invariant-loop
invariant-loop g l = record {
  can : (goal.iterator-loop g).can_next l.iterator';
  finite : (goal.iterator-loop g).is_finite l.iterator';
  buffer : 0 < length l.buffer;
  so_far : IsSoFar
      (moment g.L.Source.left g.L.Source.read_faults g.L.Source.sure g.L.Sink.taken g.L.Sink.write_faults g.L.Sink.sure l.initial.link [] [] (g.D.Desk.state l.initial.desk))
      (moment g.L.Source.left g.L.Source.read_faults g.L.Source.sure g.L.Sink.taken g.L.Sink.write_faults g.L.Sink.sure l.link l.lines l.replies.items (g.D.Desk.state l.desk));
  pends : PendsAt (g.D.Desk.state l.desk).log l.pending;
  kept : Keeps (g.D.Desk.state l.initial.desk) (g.D.Desk.state l.desk);
  bond : g.D.Desk.bond l.desk ≡ g.D.Desk.bond l.initial.desk;
  sound : g.D.Desk.sound l.initial.desk → g.D.Desk.sound l.desk;
}
