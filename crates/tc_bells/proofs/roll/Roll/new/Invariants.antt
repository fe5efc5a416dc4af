use Rattle.std.proofs.Common.{◌≡◌, vec_len, vec_capacity}
use Rattle.tc_bells.proofs.roll.Roll.new.Given as goal

abbrev pub invariant-loop : goal.invariant-loop
invariant-loop l = (vec_len l.words ≡ l.counter) × (vec_capacity l.words ≡ l.size)
