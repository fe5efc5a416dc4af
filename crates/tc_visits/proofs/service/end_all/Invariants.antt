use Rattle.std.proofs.Common.{◌≡◌, ◌++◌, All, map}
use Rattle.tc_site.proofs.Configured.{permits_by}
use Rattle.tc_visits.specs.Serving.{desk_left, desk_unused}
use Rattle.tc_visits.specs.Visits.{IsVisit}
use Rattle.tc_visits.proofs.service.end_all.Given as goal

-- the visits so far have left their desks
abbrev pub invariant-loop-visit : goal.invariant-loop-visit
invariant-loop-visit g l = record {
  ended : l.ended.items ≡ map desk_left l.yielded;
  visits : All (IsVisit permits_by) l.yielded;
}

-- and the kits so far have left theirs
abbrev pub invariant-loop-kit : goal.invariant-loop-kit
invariant-loop-kit g l = record {
  ended : l.ended.items ≡ map desk_left l.fn.visits.items ++ map desk_unused l.yielded;
  visits : All (IsVisit permits_by) l.fn.visits.items;
}
