use Rattle.tc_term.proofs.Solutions.{Matches-same, Matches-ground}
use Rattle.tc_term.proofs.laws.ground_template_matches_itself.Goals as goal

pub returns-clause-itself : goal.returns-clause-itself
returns-clause-itself c = Matches-same

pub returns-clause-alone : goal.returns-clause-alone
returns-clause-alone c = Matches-ground
