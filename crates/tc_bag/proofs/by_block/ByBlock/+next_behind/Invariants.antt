use Rattle.std.proofs.Common.{◌-◌}
use Rattle.tc_bag.proofs.by_block.ByBlock.+next_behind.Given as goal

abbrev pub decreases-next_behind : goal.decreases-next_behind
decreases-next_behind l = 4294967296 - l.block
