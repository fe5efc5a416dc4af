use Rattle.std.proofs.Common.{◌≡◌, ◌≤◌, ◌^◌, drop}
use Rattle.tc_term.specs.Tokens.{decimal_from}
use Rattle.tc_read.proofs.numbers.number.Given as goal

abbrev pub invariant-loop-digit : goal.invariant-loop-digit
invariant-loop-digit l = record { same : decimal_from l.number (drop l.digit-index l.digits) ≡ decimal_from 0 l.digits; within : l.number ≤ 2 ^ 63 }
