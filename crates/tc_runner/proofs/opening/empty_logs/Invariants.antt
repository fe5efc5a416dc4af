use Rattle.std.proofs.Common.{◌≡◌, List, [], All, length}
use Rattle.tc_desk.specs.declared.rows.LogRow.{LogRow}
use Rattle.tc_desk.specs.Logs.{rows_of}
use Rattle.tc_runner.proofs.opening.empty_logs.Given as goal

-- there are as many logs as were counted, each without a row
abbrev pub invariant-loop : goal.invariant-loop
invariant-loop l = record {
  many : length l.logs.items ≡ l.counter;
  empty : All (λ (log : List LogRow). log ≡ []) (rows_of l.logs.items);
}
