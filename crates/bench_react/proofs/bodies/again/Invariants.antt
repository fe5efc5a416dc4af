use Rattle.std.proofs.Common.{◌≡◌, ◌≤◌, ◌+◌, ◌*◌}
use Rattle.bench_react.proofs.bodies.again.Given as goal

abbrev pub invariant-loop : goal.invariant-loop
invariant-loop g l = (l.bag.next ≤ 3 + 64 * l.counter) × (l.tally.fired + l.tally.failed ≡ l.counter)
