use Rattle.std.proofs.Common.{◌≤◌}
use Rattle.tc_config.specs.Pieces.{ArePiecesOf, IsProgressIn}
use Rattle.tc_config.proofs.reading.add_share.Given as goal

abbrev pub invariant-loop-piece : goal.invariant-loop-piece
invariant-loop-piece l = record {
  progress : IsProgressIn l.text l.progress;
  onward : l.fn.progress.from ≤ l.progress.from;
  pieces : ArePiecesOf l.text l.piece-iterator.rest.items;
}
