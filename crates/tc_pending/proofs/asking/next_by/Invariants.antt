use Rattle.std.proofs.Common.{◌≤◌, ◌-◌, ◌^◌, get_or}
use Rattle.tc_pending.proofs.Lookups.{IsPast}
use Rattle.tc_pending.proofs.asking.next_by.Given as goal

abbrev pub invariant-loop-serial : goal.invariant-loop-serial
invariant-loop-serial l = record {
  up : get_or l.serials l.at 0 ≤ l.from;
  past : IsPast l.codes l.serials l.count l.code l.at l.from;
}

abbrev pub decreases-loop-serial : goal.decreases-loop-serial
decreases-loop-serial l = 2 ^ 64 - l.from
