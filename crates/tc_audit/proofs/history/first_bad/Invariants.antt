use Rattle.std.proofs.Common.{take}
use Rattle.tc_audit.specs.Beginnings.{origin_in}
use Rattle.tc_audit.specs.Followed.{IsFollowed}
use Rattle.tc_audit.proofs.history.first_bad.Given as goal

-- the entries before this one are followed
abbrev pub invariant-loop-place : goal.invariant-loop-place
invariant-loop-place l = IsFollowed (origin_in l.beginning) (take l.place l.history) l.reached l.noted

abbrev pub ghosts-is_quiet : goal.ghosts-is_quiet
ghosts-is_quiet a = record { name = a.blank.name; parts = 1 }
