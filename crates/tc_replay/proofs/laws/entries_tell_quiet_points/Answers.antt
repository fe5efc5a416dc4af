use Rattle.tc_replay.proofs.QuietPoints.{quiet_before, quiet_end, unquiet_before}
use Rattle.tc_replay.proofs.laws.entries_tell_quiet_points.Goals as goal

pub returns-clause-before : goal.returns-clause-before
returns-clause-before c = quiet_before

pub returns-clause-gave : goal.returns-clause-gave
returns-clause-gave c = unquiet_before

pub returns-clause-end : goal.returns-clause-end
returns-clause-end c = quiet_end
