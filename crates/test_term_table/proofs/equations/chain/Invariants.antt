use mathlib.Core.List.{IsPrefix}
use Rattle.test_term_table.proofs.equations.chain.Given as goal

abbrev pub invariant-loop-i : goal.invariant-loop-i
invariant-loop-i l = IsPrefix l.fn.sample.store.pairs l.sample.store.pairs

abbrev pub ghosts-add : goal.ghosts-add
ghosts-add a = record { name = a.blank.name; parts = 1 }
