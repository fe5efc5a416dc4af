use mathlib.Core.List.{IsPrefix}
use Rattle.test_term_table.proofs.equations.+take.Given as goal

abbrev pub invariant-loop-step : goal.invariant-loop-step
invariant-loop-step l = IsPrefix l.fn.sample.store.pairs l.sample.store.pairs
