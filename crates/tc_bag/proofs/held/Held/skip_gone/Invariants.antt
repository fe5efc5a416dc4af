use Rattle.std.proofs.Common.{◌≡◌}
use Rattle.tc_bag.proofs.held.Held.skip_gone.Given as goal

abbrev pub invariant-loop : goal.invariant-loop
invariant-loop l = l.self ≡ l.fn.self
