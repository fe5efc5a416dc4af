use Rattle.tc_model.proofs.Written.{one_ask, one_line, one_primitive}
use Rattle.tc_model.proofs.laws.what_is_written_is_asked_once.Goals as goal

pub returns-clause-primitive : goal.returns-clause-primitive
returns-clause-primitive c = one_primitive

pub returns-clause-ask : goal.returns-clause-ask
returns-clause-ask c = one_ask

pub returns-clause-line : goal.returns-clause-line
returns-clause-line c = one_line
