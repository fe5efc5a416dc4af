use Rattle.std.proofs.Common.{◌≡◌, length, take}
use Rattle.tc_calls.specs.Places.{ArePlaces, lists_of}
use Rattle.tc_rows.proofs.replies.replies_in.Given as goal

-- the calls so far are noted
abbrev pub invariant-loop-place : goal.invariant-loop-place
invariant-loop-place l = record {
  agents : length l.places.items ≡ l.agents;
  places : ArePlaces (lists_of l.places.items) (take l.place l.history);
}
