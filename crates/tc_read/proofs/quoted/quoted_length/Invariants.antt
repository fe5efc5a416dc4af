use Rattle.std.proofs.Common.{◌≡◌, ◌+◌, length}
use Rattle.tc_read.specs.Lexing.{quoted_end}
use Rattle.tc_read.specs.Parts.{better}
use Rattle.tc_read.proofs.quoted.quoted_length.Given as goal

abbrev pub invariant-loop-best : goal.invariant-loop-best
invariant-loop-best l = record { ends : quoted_end l.text ≡ better l.count l.best (quoted_end l.rest); size : l.count + length l.rest ≡ length l.text }

abbrev pub decreases-loop-best : goal.decreases-loop-best
decreases-loop-best l = length l.rest
