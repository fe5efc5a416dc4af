use Rattle.std.proofs.Common.{All}
use Rattle.tc_sched.specs.Steps.{IsReady}
use Rattle.tc_site.specs.Desks.{desk_of}
use Rattle.test_site_rows.proofs.driving.last_steps.Given as goal

-- the actors that are left can make a step
abbrev pub invariant-loop-member : goal.invariant-loop-member
invariant-loop-member g l = All (IsReady desk_of 1 l.names) l.member-iterator.rest.items
