use Rattle.std.proofs.Common.{arith}
use Rattle.tc_config.proofs.Arguments.{many_arguments}
use Rattle.tc_config.proofs.words.three_of.Goals as goal

pub returns-then-len-gt3 : goal.returns-then-len-gt3
returns-then-len-gt3 c = many_arguments c.args.terms.items (omega arith)
