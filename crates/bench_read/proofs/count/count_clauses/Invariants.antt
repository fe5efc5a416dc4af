use Rattle.std.proofs.Common.{◌-◌, ◌≤◌, length}
use Rattle.bench_read.proofs.count.count_clauses.Given as goal

abbrev pub invariant-loop-behind : goal.invariant-loop-behind
invariant-loop-behind l = (l.from ≤ length l.text) × (l.clauses ≤ l.from)

abbrev pub decreases-loop-behind : goal.decreases-loop-behind
decreases-loop-behind l = length l.text - l.from
