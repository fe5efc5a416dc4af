use Rattle.tc_bag.proofs.Looks.{like-between, like-from, like-all, like-found}
use Rattle.tc_bag.proofs.laws.looks_add_up.Goals as goal

pub returns : goal.returns
returns c = record { between = like-between; from = like-from; all = like-all; found = like-found }
