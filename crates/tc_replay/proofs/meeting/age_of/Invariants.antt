use Rattle.std.proofs.Common.{◌-◌}
use Rattle.tc_search.proofs.Passing.{IsPassed}
use Rattle.tc_replay.proofs.Equal.{Equals}
use Rattle.tc_replay.proofs.meeting.age_of.Given as goal

-- no row so far is equal
abbrev pub invariant-loop-age : goal.invariant-loop-age
invariant-loop-age g l = IsPassed (Equals l.tuple) l.start l.bag.now

abbrev pub decreases-loop-age : goal.decreases-loop-age
decreases-loop-age g l = l.bag.next - l.start
