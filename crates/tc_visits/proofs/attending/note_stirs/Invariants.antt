use Rattle.std.proofs.Common.{◌≡◌}
use Rattle.tc_visits.proofs.attending.note_stirs.Given as goal

-- the door is as it was
abbrev pub invariant-loop : goal.invariant-loop
invariant-loop g l = record {
  can : (goal.iterator-loop g).can_next l.iterator';
  finite : (goal.iterator-loop g).is_finite l.iterator';
  opened : g.D.Door.opened l.door ≡ g.D.Door.opened l.fn.door;
  faults : g.D.Door.door_faults l.door ≡ g.D.Door.door_faults l.fn.door;
}
