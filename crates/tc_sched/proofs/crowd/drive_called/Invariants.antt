use Rattle.std.proofs.Common.{◌<◌}
use Rattle.tc_sched.proofs.Crowds.{Driving}
use Rattle.tc_sched.proofs.crowd.drive_called.Given as goal

abbrev pub invariant-loop : goal.invariant-loop
invariant-loop g l = record {
  can : (goal.iterator-loop g).can_next l.iterator';
  finite : (goal.iterator-loop g).is_finite l.iterator';
  size : 0 < l.size;
  driving : Driving g.D.Desk.state g.D.Desk.bond g.D.Desk.sound l.names l.fn.actors l.actors;
}
