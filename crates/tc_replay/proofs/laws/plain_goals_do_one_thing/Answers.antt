use Rattle.tc_replay.proofs.Plain.{plain_one}
use Rattle.tc_replay.proofs.laws.plain_goals_do_one_thing.Goals as goal

pub returns : goal.returns
returns c = plain_one
