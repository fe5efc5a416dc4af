use Rattle.tc_term.proofs.Causes.{HasTupleCause-tuple, HasExcess-template, HasExcess-pattern}
use Rattle.tc_term.proofs.laws.good_terms_are_not_refused.Goals as goal

pub returns-clause-tuple : goal.returns-clause-tuple
returns-clause-tuple c = HasTupleCause-tuple

pub returns-clause-template : goal.returns-clause-template
returns-clause-template c = HasExcess-template

pub returns-clause-pattern : goal.returns-clause-pattern
returns-clause-pattern c = HasExcess-pattern
