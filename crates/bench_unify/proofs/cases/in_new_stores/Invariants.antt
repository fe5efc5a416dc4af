use Rattle.std.proofs.Common.{◌≡◌, ◌+◌, ◌≤◌}
use Rattle.tc_term.specs.Variables.{var_bound}
use Rattle.bench_unify.proofs.cases.in_new_stores.Given as goal

abbrev pub invariant-loop : goal.invariant-loop
invariant-loop g l =
    (l.tally.accepted + l.tally.refused ≡ l.counter) × (var_bound l.template ≤ l.variables) × (var_bound l.tuple ≤ l.variables)
