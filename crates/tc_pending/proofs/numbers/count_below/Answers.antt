use Rattle.tc_pending.proofs.Rising.{gap_at, gap_between}
use Rattle.tc_pending.proofs.numbers.count_below.Goals as goal

pub returns-in-Ok-clause-below : goal.returns-in-Ok-clause-below
returns-in-Ok-clause-below c =
    (gap_at c.args.numbers.now c.args.number c.requires c.in-Ok.place c.in-Ok.ensures.position).below

pub returns-in-Ok-clause-above : goal.returns-in-Ok-clause-above
returns-in-Ok-clause-above c =
    (gap_at c.args.numbers.now c.args.number c.requires c.in-Ok.place c.in-Ok.ensures.position).above

pub returns-in-Err-clause-below : goal.returns-in-Err-clause-below
returns-in-Err-clause-below c =
    (gap_between c.args.numbers.now c.args.number c.requires c.in-Err.place c.in-Err.ensures.position).below

pub returns-in-Err-clause-above : goal.returns-in-Err-clause-above
returns-in-Err-clause-above c =
    (gap_between c.args.numbers.now c.args.number c.requires c.in-Err.place c.in-Err.ensures.position).above
