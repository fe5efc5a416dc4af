use Rattle.tc_config.proofs.GoodRuns.{good-first}
use Rattle.tc_config.proofs.laws.first_good_run_is_good.Goals as goal

pub returns : goal.returns
returns c = good-first
