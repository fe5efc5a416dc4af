use Rattle.tc_histtext.proofs.OneRun.{has_lines, run_text-one}
use Rattle.tc_histtext.proofs.laws.texts_tell_their_histories.Goals as goal

pub returns-clause-one : goal.returns-clause-one
returns-clause-one c = run_text-one

pub returns-clause-lines : goal.returns-clause-lines
returns-clause-lines c = has_lines
