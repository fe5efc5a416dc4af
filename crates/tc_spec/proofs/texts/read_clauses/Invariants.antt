use Rattle.std.proofs.Common.{length, ◌-◌}
use Rattle.tc_spec.proofs.GoingOn.{AreReadTo}
use Rattle.tc_spec.proofs.texts.read_clauses.Given as goal

-- the text so far is the clauses
abbrev pub invariant-loop-clauses : goal.invariant-loop-clauses
invariant-loop-clauses l = AreReadTo l.text l.from l.clauses

abbrev pub decreases-loop-clauses : goal.decreases-loop-clauses
decreases-loop-clauses l = length l.text - l.from
