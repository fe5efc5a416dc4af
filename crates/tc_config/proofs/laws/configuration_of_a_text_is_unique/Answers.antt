use Rattle.tc_config.proofs.OneConfig.{one_configuration}
use Rattle.tc_config.proofs.laws.configuration_of_a_text_is_unique.Goals as goal

pub returns : goal.returns
returns c = one_configuration
