use Rattle.std.proofs.Common.{◌≡◌, length}
use Rattle.tc_site.specs.Columns.{columns_of}
use Rattle.tc_site.proofs.Sweeps.{Swept}
use Rattle.tc_site.proofs.Taken.{HasLost}
use Rattle.tc_site.proofs.closing.end_last.Given as goal

-- the columns so far have lost their last passes
abbrev pub invariant-loop-column : goal.invariant-loop-column
invariant-loop-column l = record {
  wide : length l.row.items ≡ l.column-index;
  swept : Swept (HasLost l.centre l.row.items) (columns_of l.initial.columns) (columns_of l.columns) l.column-index;
}
