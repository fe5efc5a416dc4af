use Rattle.tc_session.proofs.Staying.{stays_always, stays_only}
use Rattle.tc_session.proofs.laws.a_log_stays_in_few_cases.Goals as goal

pub returns-clause-only : goal.returns-clause-only
returns-clause-only c = stays_only

pub returns-clause-always : goal.returns-clause-always
returns-clause-always c = stays_always
