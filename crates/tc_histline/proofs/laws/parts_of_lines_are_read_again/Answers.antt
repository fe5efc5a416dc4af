use Rattle.tc_histline.proofs.ReadOperations.{op_at-again, op_at-takes}
use Rattle.tc_histline.proofs.ReadOutcomes.{outcome-ended, outcome_at-takes, told-ended, told_at-takes}
use Rattle.tc_histline.proofs.laws.parts_of_lines_are_read_again.Goals as goal

pub returns-clause-op : goal.returns-clause-op
returns-clause-op c = op_at-takes

pub returns-clause-op_again : goal.returns-clause-op_again
returns-clause-op_again c = op_at-again

pub returns-clause-outcome : goal.returns-clause-outcome
returns-clause-outcome c = outcome_at-takes

pub returns-clause-outcome_again : goal.returns-clause-outcome_again
returns-clause-outcome_again c = outcome-ended

pub returns-clause-told : goal.returns-clause-told
returns-clause-told c = told_at-takes

pub returns-clause-told_again : goal.returns-clause-told_again
returns-clause-told_again c = told-ended
