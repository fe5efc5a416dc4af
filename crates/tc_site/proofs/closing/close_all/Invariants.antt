use Rattle.std.proofs.Common.{All, length}
use Rattle.tc_site.specs.Columns.{columns_of}
use Rattle.tc_site.specs.Sites.{HasPasses}
use Rattle.tc_site.proofs.Taken.{IsClosing}
use Rattle.tc_site.proofs.closing.close_all.Given as goal

-- the centres that were popped are closed
abbrev pub invariant-loop-centre : goal.invariant-loop-centre
invariant-loop-centre l = record {
  passes : All (HasPasses (length l.fn.columns.items)) l.centres.items;
  closing : IsClosing l.fn.centres.items (columns_of l.fn.columns.items) l.centres.items (columns_of l.columns.items) l.cores.items;
}

abbrev pub decreases-loop-centre : goal.decreases-loop-centre
decreases-loop-centre l = length l.centres.items
