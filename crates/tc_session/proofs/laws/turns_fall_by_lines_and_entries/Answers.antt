use Rattle.std.proofs.Common.{arith}
use Rattle.tc_session.proofs.Staying.{turns_fall}
use Rattle.tc_session.proofs.laws.turns_fall_by_lines_and_entries.Goals as goal

pub returns-clause-fall : goal.returns-clause-fall
returns-clause-fall c = turns_fall

pub returns-clause-last_long : goal.returns-clause-last_long
returns-clause-last_long c d raws text e leads k begin seen spent =
    let fall = turns_fall d raws text e leads k in omega (arith, fall, begin, seen, spent)
