use mathlib.Core.List.{IsPrefix}
use Rattle.std.proofs.Common.{◌≡◌, ℕ, ◌+◌, ◌-◌, ◌≤◌, length, get_or}
use Rattle.tc_unify.proofs.links.push_own.Given as goal

abbrev pub invariant-loop-table : goal.invariant-loop-table
invariant-loop-table l = record {
  shorter : length l.table.items ≤ l.len;
  begins : IsPrefix l.fn.table.items l.table.items;
  own : (k : ℕ) → get_or l.table.items k (l.first + k) ≡ get_or l.fn.table.items k (l.first + k);
}

abbrev pub decreases-loop-table : goal.decreases-loop-table
decreases-loop-table l = l.len - length l.table.items
