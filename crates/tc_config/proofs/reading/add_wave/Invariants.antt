use Rattle.std.proofs.Common.{◌≤◌, All}
use Rattle.tc_config.specs.Pieces.{ArePiecesOf, IsProgressIn}
use Rattle.tc_config.proofs.reading.add_wave.Given as goal

abbrev pub invariant-loop-share : goal.invariant-loop-share
invariant-loop-share l = record {
  progress : IsProgressIn l.text l.progress;
  onward : l.fn.progress.from ≤ l.progress.from;
  shares : All (λ share. ArePiecesOf l.text share.items) l.share-iterator.rest.items;
}
