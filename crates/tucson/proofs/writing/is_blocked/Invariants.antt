use Rattle.std.proofs.Common.{◌≡◌, false, take}
use Rattle.tc_desk.specs.Logs.{is_blocked, rows_of}
use Rattle.tucson.proofs.writing.is_blocked.Given as goal

-- no ask in the first logs is pending
abbrev pub invariant-loop-log : goal.invariant-loop-log
invariant-loop-log l = is_blocked (rows_of (take l.log-index l.logs)) ≡ false
