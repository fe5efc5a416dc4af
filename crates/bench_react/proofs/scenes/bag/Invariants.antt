use Rattle.std.proofs.Common.{◌≡◌}
use Rattle.bench_react.proofs.scenes.bag.Given as goal

abbrev pub invariant-loop-text : goal.invariant-loop-text
invariant-loop-text l = l.bag.next ≡ l.text-index
