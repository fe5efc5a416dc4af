use Rattle.std.proofs.Common.{◌-◌, ◌≤◌, length}
use Rattle.tc_config.specs.Pieces.{ArePiecesOf}
use Rattle.tc_config.proofs.ahead.pieces_between.Given as goal

abbrev pub invariant-loop-from : goal.invariant-loop-from
invariant-loop-from l = record {
  place : l.from ≤ length l.text;
  pieces : ArePiecesOf l.text l.pieces.items;
}

abbrev pub decreases-loop-from : goal.decreases-loop-from
decreases-loop-from l = l.end - l.from
