use Rattle.tc_histtext.proofs.Texts.{history_text-push, histories_text-push, log_text-push, logs_text-push}
use Rattle.tc_histtext.proofs.laws.text_grows_by_parts.Goals as goal

pub returns-clause-entry : goal.returns-clause-entry
returns-clause-entry c = history_text-push

pub returns-clause-histories : goal.returns-clause-histories
returns-clause-histories c = histories_text-push

pub returns-clause-row : goal.returns-clause-row
returns-clause-row c = log_text-push

pub returns-clause-logs : goal.returns-clause-logs
returns-clause-logs c = logs_text-push
