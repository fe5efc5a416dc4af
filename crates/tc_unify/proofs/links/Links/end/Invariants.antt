use Rattle.std.proofs.Common.{◌≡◌}
use Rattle.tc_unify.specs.Links.{root}
use Rattle.tc_unify.specs.Tables.{link_of}
use Rattle.tc_unify.proofs.links.Links.end.Given as goal

abbrev pub invariant-loop-end : goal.invariant-loop-end
invariant-loop-end l = root (link_of l.self) l.end ≡ root (link_of l.self) l.node

abbrev pub decreases-loop-end : goal.decreases-loop-end
decreases-loop-end l = l.end
