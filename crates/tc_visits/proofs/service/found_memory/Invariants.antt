use Rattle.std.proofs.Common.{◌≡◌, false, take}
use Rattle.std.specs.List.{list_any}
use Rattle.tc_visits.specs.Service.{lacked_memory}
use Rattle.tc_visits.specs.Visits.{VisitState}
use Rattle.tc_visits.proofs.service.found_memory.Given as goal

-- no session so far lacked memory
abbrev pub invariant-loop-visit : goal.invariant-loop-visit
invariant-loop-visit g l = list_any (λ (v : VisitState). lacked_memory v.end) (take l.visit-index l.visits) ≡ false
