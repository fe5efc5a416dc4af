use Rattle.std.proofs.Common.{◌≡◌, length, take}
use Rattle.tc_rows.specs.Made.{AreAllMade, lists_of}
use Rattle.tc_rows.proofs.made.made_in.Given as goal

-- the entries so far are noted
abbrev pub invariant-loop-place : goal.invariant-loop-place
invariant-loop-place l = record {
  agents : length l.makers.items ≡ l.agents;
  made : AreAllMade (lists_of l.makers.items) (take l.place l.history);
}
