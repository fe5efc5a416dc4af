use Rattle.tc_config.proofs.OneConfig.{spelt_or_refused}
use Rattle.tc_config.proofs.laws.a_refused_text_spells_nothing.Goals as goal

pub returns : goal.returns
returns c = spelt_or_refused
