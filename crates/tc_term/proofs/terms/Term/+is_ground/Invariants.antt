use Rattle.std.proofs.Common.{◌≡◌, drop}
use Rattle.tc_term.proofs.Sizes.{ground_in}
use Rattle.tc_term.proofs.terms.Term.+is_ground.Given as goal

abbrev pub invariant-loop-arg : goal.invariant-loop-arg
invariant-loop-arg l = ground_in l.arg-items ≡ ground_in (drop l.arg-index l.arg-items)
