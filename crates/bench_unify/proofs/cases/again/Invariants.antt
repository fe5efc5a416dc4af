use Rattle.std.proofs.Common.{◌≡◌, ◌+◌}
use Rattle.bench_unify.proofs.cases.again.Given as goal

abbrev pub invariant-loop : goal.invariant-loop
invariant-loop g l = (l.tally.accepted + l.tally.refused ≡ l.counter) × (l.store.vars ≡ l.initial.store.vars)
