use Rattle.std.proofs.Common.{◌≡◌, ◌+◌, ◌≤◌, length, take}
use Rattle.tc_calls.specs.Places.{ArePlaces, lists_of}
use Rattle.tc_calls.proofs.places.note_turn.Given as goal

abbrev pub invariant-loop-place : goal.invariant-loop-place
invariant-loop-place l = record {
  behind : l.before + 1 ≤ l.place;
  places : ArePlaces (lists_of l.places.items) (take l.place l.history);
  agents : length l.places.items ≡ length l.initial.places.items;
}
