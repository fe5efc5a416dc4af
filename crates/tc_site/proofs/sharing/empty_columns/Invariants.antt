use Rattle.std.proofs.Common.{◌≡◌, List, [], All, length}
use Rattle.tc_model.specs.State.{Origin}
use Rattle.tc_model.specs.declared.entries.Entry.{Entry}
use Rattle.tc_turn.specs.Passes.{PassState}
use Rattle.tc_site.specs.Columns.{columns_of}
use Rattle.tc_site.proofs.sharing.empty_columns.Given as goal

-- there are as many columns as were counted, each without a pass
abbrev pub invariant-loop : goal.invariant-loop
invariant-loop l = record {
  many : length l.columns.items ≡ l.counter;
  empty : All (λ (column : List (PassState Entry Origin)). column ≡ []) (columns_of l.columns.items);
}
