use Rattle.tc_term.proofs.Solutions.{Solves-fewer}
use Rattle.tc_term.proofs.laws.fewer_equations_have_more_solutions.Goals as goal

pub returns : goal.returns
returns c = Solves-fewer
