use Rattle.crate_tests.specs.Turns.{StaysFree}
use Rattle.crate_tests.proofs.turnstile.take_turns.Given as goal

abbrev pub invariant-loop : goal.invariant-loop
invariant-loop g l = record {
  stays : StaysFree l.turnstile l.fn.pass l.pass;
}
