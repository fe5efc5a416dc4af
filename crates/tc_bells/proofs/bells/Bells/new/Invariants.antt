use Rattle.std.proofs.Common.{◌≡◌, vec_len, vec_capacity}
use Rattle.tc_bells.proofs.bells.Bells.new.Given as goal

abbrev pub invariant-loop : goal.invariant-loop
invariant-loop l = (vec_len l.all ≡ l.counter) × (vec_capacity l.all ≡ l.count)
