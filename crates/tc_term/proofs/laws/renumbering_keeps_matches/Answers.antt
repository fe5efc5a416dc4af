use Rattle.tc_term.proofs.Matching.{Matches-renumbered, Matches-as_written}
use Rattle.tc_term.proofs.laws.renumbering_keeps_matches.Goals as goal

pub returns-clause-renumbered : goal.returns-clause-renumbered
returns-clause-renumbered c = Matches-renumbered

pub returns-clause-as_written : goal.returns-clause-as_written
returns-clause-as_written c = Matches-as_written
