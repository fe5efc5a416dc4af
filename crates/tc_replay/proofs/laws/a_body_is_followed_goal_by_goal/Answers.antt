use Rattle.tc_replay.proofs.Followed.{begun, one_more, no_more, left_over}
use Rattle.tc_replay.proofs.laws.a_body_is_followed_goal_by_goal.Goals as goal

pub returns-clause-begun : goal.returns-clause-begun
returns-clause-begun c = begun

pub returns-clause-more : goal.returns-clause-more
returns-clause-more c = one_more

pub returns-clause-none : goal.returns-clause-none
returns-clause-none c = no_more

pub returns-clause-left_over : goal.returns-clause-left_over
returns-clause-left_over c = left_over
