use Rattle.tc_pending.proofs.Filed.{IsFiled-entered}
use Rattle.tc_pending.proofs.index.file.Goals as goal

pub returns-clause-filed : goal.returns-clause-filed
returns-clause-filed c =
    IsFiled-entered c.args.index.now c.args.filed.now c.args.codes.now c.args.serials.now c.requires.filed
    c.enter_from.new.self c.count_below-start.result c.in_ok-behind.behind
    c.count_below-start.ensures.below c.in_ok-enter_from.ensures.kept c.in_ok-enter_from.ensures.entered
