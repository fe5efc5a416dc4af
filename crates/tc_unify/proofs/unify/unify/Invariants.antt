use Rattle.tc_unify.specs.Tables.{Extends}
use Rattle.tc_unify.specs.Arena.{AreNodesOf}
use Rattle.tc_unify.specs.Meeting.{IsLinked, Leads, work}
use Rattle.tc_unify.proofs.unify.unify.Given as goal

abbrev pub invariant-loop-pair : goal.invariant-loop-pair
invariant-loop-pair l = record {
  linked : IsLinked l.arena l.links;
  nodes : AreNodesOf l.arena l.waiting.items;
  leads : Leads l.arena l.fn.links l.fn.waiting.items l.links l.waiting.items;
  extends : Extends l.fn.links l.links;
}

abbrev pub decreases-loop-pair : goal.decreases-loop-pair
decreases-loop-pair l = work l.links l.waiting.items
