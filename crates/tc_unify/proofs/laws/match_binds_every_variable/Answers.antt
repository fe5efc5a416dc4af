use Rattle.tc_unify.proofs.Bindings.{bound_variable, bound_number}
use Rattle.tc_unify.proofs.laws.match_binds_every_variable.Goals as goal

pub returns-clause-variables : goal.returns-clause-variables
returns-clause-variables c = bound_variable

pub returns-clause-numbers : goal.returns-clause-numbers
returns-clause-numbers c = bound_number
