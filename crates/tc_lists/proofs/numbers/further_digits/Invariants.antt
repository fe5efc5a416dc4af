use Rattle.std.proofs.Common.{◌≡◌, drop}
use Rattle.tc_lists.specs.Decimals.{more_digits}
use Rattle.tc_lists.proofs.numbers.further_digits.Given as goal

-- what is left decides
abbrev pub invariant-loop-at : goal.invariant-loop-at
invariant-loop-at l = more_digits l.limit l.number (drop l.at l.bytes) ≡ more_digits l.limit l.first l.bytes
