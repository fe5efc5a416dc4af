use Rattle.tucson.proofs.OneReading.{one-run, one-service}
use Rattle.tucson.proofs.laws.a_text_tells_its_histories.Goals as goal

pub returns-clause-run : goal.returns-clause-run
returns-clause-run c = one-run

pub returns-clause-service : goal.returns-clause-service
returns-clause-service c = one-service
