use Rattle.tc_desk.proofs.Filling.{ask-primitive}
use Rattle.tc_desk.proofs.laws.scripts_fix_what_they_need.Goals as goal

pub returns : goal.returns
returns c = ask-primitive
