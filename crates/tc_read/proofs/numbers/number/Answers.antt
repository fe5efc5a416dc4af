use Rattle.std.proofs.Common.{arith}
use Rattle.tc_read.proofs.Decimals.{decimal_grows}
use Rattle.tc_read.proofs.numbers.number.Goals as goal

pub returns-then-number-clause-none : goal.returns-then-number-clause-none
returns-then-number-clause-none c = omega (arith, c.loop-digit.invariant.same, decimal_grows c.args.digits.now c.loop-digit.digit-index c.loop-digit.number c.loop-digit-test.true)

pub returns-then-number-gt-LARGEST-clause-none : goal.returns-then-number-gt-LARGEST-clause-none
returns-then-number-gt-LARGEST-clause-none c = omega (arith, c.loop-digit.invariant.same, decimal_grows c.args.digits.now c.loop-digit.digit-index c.loop-digit.number c.loop-digit-test.true)
