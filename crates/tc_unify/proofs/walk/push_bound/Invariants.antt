use Rattle.std.proofs.Common.{take}
use Rattle.tc_unify.specs.WalkMarks.{IsStarted}
use Rattle.tc_unify.proofs.walk.push_bound.Given as goal

abbrev pub invariant-loop-node : goal.invariant-loop-node
invariant-loop-node l = IsStarted l.arena l.links (take l.node-index l.nodes) l.steps.items
