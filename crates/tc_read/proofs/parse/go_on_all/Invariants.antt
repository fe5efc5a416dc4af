use Rattle.tc_read.specs.Frames.{opened_in, standing, tokens_left}
use Rattle.tc_read.specs.Kept.{kept}
use Rattle.tc_read.specs.Settled.{Steps}
use Rattle.tc_read.proofs.Steps.{left_over}
use Rattle.tc_read.proofs.parse.go_on_all.Given as goal

abbrev pub invariant-loop-now : goal.invariant-loop-now
invariant-loop-now l = Steps (opened_in l.fn.from.state l.initial.stack) (standing l.fn.from.state l.initial.stack) (tokens_left l.fn.from)
    (opened_in l.now.state l.stack) (standing l.now.state l.stack) (tokens_left l.now)

abbrev pub decreases-loop-now : goal.decreases-loop-now
decreases-loop-now l = left_over kept (opened_in l.now.state l.stack) (standing l.now.state l.stack) (tokens_left l.now)
