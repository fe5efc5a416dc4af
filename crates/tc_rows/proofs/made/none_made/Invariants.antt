use Rattle.std.proofs.Common.{◌≡◌, List, [], All, length}
use Rattle.tc_rows.specs.Made.{lists_of}
use Rattle.tc_rows.specs.declared.made.Made.{Made}
use Rattle.tc_rows.proofs.made.none_made.Given as goal

-- there are as many lists as were counted, each empty
abbrev pub invariant-loop : goal.invariant-loop
invariant-loop l = record {
  many : length l.makers.items ≡ l.counter;
  empty : All (λ (made : List Made). made ≡ []) (lists_of l.makers.items);
}
