use Rattle.tc_desk.proofs.Growing.{Agrees-longer, Agrees-push, Agrees-answered}
use Rattle.tc_desk.proofs.laws.logs_go_on_agreeing.Goals as goal

pub returns-clause-longer : goal.returns-clause-longer
returns-clause-longer c = Agrees-longer

pub returns-clause-row : goal.returns-clause-row
returns-clause-row c = Agrees-push

pub returns-clause-answered : goal.returns-clause-answered
returns-clause-answered c origins names histories agent front row back reply agrees has =
    Agrees-answered front row back reply has.pending origins names histories agent agrees has
