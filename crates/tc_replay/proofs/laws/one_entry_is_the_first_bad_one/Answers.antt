use Rattle.tc_replay.proofs.Firsts.{bad-one, whole-none}
use Rattle.tc_replay.proofs.laws.one_entry_is_the_first_bad_one.Goals as goal

pub returns-clause-one : goal.returns-clause-one
returns-clause-one c = bad-one

pub returns-clause-none : goal.returns-clause-none
returns-clause-none c = whole-none
