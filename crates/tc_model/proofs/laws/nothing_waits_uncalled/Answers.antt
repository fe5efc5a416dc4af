use Rattle.tc_model.proofs.Waiting.{none_waits, none_given}
use Rattle.tc_model.proofs.laws.nothing_waits_uncalled.Goals as goal

pub returns-clause-none_waits : goal.returns-clause-none_waits
returns-clause-none_waits c = none_waits

pub returns-clause-none_given : goal.returns-clause-none_given
returns-clause-none_given c = none_given
