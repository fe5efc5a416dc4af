use Rattle.tc_phases.proofs.Outcomes.{served, given}
use Rattle.tc_phases.proofs.laws.operation_has_an_outcome.Goals as goal

pub returns-clause-served : goal.returns-clause-served
returns-clause-served c = served

pub returns-clause-given : goal.returns-clause-given
returns-clause-given c = given
