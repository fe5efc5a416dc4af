use Rattle.tc_lists.proofs.After.{strip_prefix-after}
use Rattle.tc_lists.proofs.words.behind.Goals as goal

pub returns : goal.returns
returns c = strip_prefix-after c.strip_prefix.result c.args.word.now c.args.bytes.now c.strip_prefix.ensures.cases
