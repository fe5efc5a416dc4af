use Rattle.std.proofs.Common.{map}
use Rattle.tc_read.specs.Frames.{opened}
use Rattle.tc_read.specs.Kept.{kept}
use Rattle.tc_read.specs.Machine.{Awaits}
use Rattle.tc_read.specs.Views.{token_view}
use Rattle.tc_read.proofs.Loop.{Reads}
use Rattle.tc_read.proofs.Steps.{left_over}
use Rattle.tc_read.proofs.parse.parse.Given as goal

abbrev pub invariant-loop-stack : goal.invariant-loop-stack
invariant-loop-stack l = Reads (map token_view l.tokens) (opened l.stack) Awaits (map token_view l.now.rest.now)

abbrev pub decreases-loop-stack : goal.decreases-loop-stack
decreases-loop-stack l = left_over kept (opened l.stack) Awaits (map token_view l.now.rest.now)
