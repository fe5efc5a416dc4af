use Rattle.std.proofs.Common.{All, take}
use Rattle.tc_term.specs.Tree.{IsTuple}
use Rattle.tc_model.proofs.origins.are_tuples.Given as goal

abbrev pub invariant-loop-tuple : goal.invariant-loop-tuple
invariant-loop-tuple l = All IsTuple (take l.tuple-index l.tuples)
