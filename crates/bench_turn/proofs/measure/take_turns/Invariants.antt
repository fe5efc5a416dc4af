use Rattle.std.proofs.Common.{◌≡◌, false}
use Rattle.tc_turn.specs.Passes.{IsPassOfTurnstile}
use Rattle.bench_turn.proofs.measure.take_turns.Given as goal

abbrev pub invariant-loop : goal.invariant-loop
invariant-loop g l = IsPassOfTurnstile l.turnstile l.pass × (l.pass.holds ≡ false)
