use Rattle.std.proofs.Common.{arith}
use Rattle.tc_session.proofs.Over.{long_over}
use Rattle.tc_session.proofs.session.refill.Goals as goal

pub returns-then-count-gt-MOST_LINE : goal.returns-then-count-gt-MOST_LINE
returns-then-count-gt-MOST_LINE g c = record {
  steps = λ from d before.
      long_over from _ _ _ _ _ before c.requires.none (omega (arith, c.count.ensures.count, c.count.ensures.few, c.if-count-gt-MOST_LINE.true))
      c.finish.ensures.source c.push_error.ensures c.finish.ensures.finishes;
}

pub returns-in-Some : goal.returns-in-Some
returns-in-Some g c = record { steps = λ from d before. c.in-Some.ensures.steps from c.args.lines.now d before }
