use Rattle.tc_site.specs.Columns.{columns_of}
use Rattle.tc_site.proofs.Dealt.{HasGot, IsDealing}
use Rattle.tc_site.proofs.Sweeps.{Swept}
use Rattle.tc_site.proofs.sharing.deal.Given as goal

-- the columns so far have got their passes
abbrev pub invariant-loop-column : goal.invariant-loop-column
invariant-loop-column l = record {
  left : IsDealing l.fn.passes.items l.rest.rest.items l.column-index;
  swept : Swept (HasGot l.fn.passes.items) (columns_of l.initial.columns) (columns_of l.columns) l.column-index;
}
