use Rattle.tc_verify.proofs.RunTexts.{run-from_yes, yes-from_run}
use Rattle.tc_verify.proofs.laws.yes_is_told_of_texts_of_runs.Goals as goal

pub returns-clause-run : goal.returns-clause-run
returns-clause-run d c bytes verdict = run-from_yes c bytes verdict

pub returns-clause-yes : goal.returns-clause-yes
returns-clause-yes d c bytes of = yes-from_run c bytes of
