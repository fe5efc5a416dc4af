use Rattle.std.proofs.Common.{Contains}
use Rattle.tc_bag.proofs.Kept.{within_All}
use Rattle.tc_bag.proofs.places.settle.Goals as goal

pub returns-then-len-filled-clause-within : goal.returns-then-len-filled-clause-within
returns-then-len-filled-clause-within c =
    within_All (Contains c.args.places.now.items) c.trim.new.places.items c.gather.new.places.items c.gather.ensures.within c.trim.ensures.within
