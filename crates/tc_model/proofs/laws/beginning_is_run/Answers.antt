use Rattle.tc_model.specs.State.{opening}
use Rattle.tc_model.specs.Run.{IsLegal}
use Rattle.tc_model.proofs.Runs.{EachEntry-IsPrefix}
use Rattle.tc_model.proofs.laws.beginning_is_run.Goals as goal

pub returns : goal.returns
returns c = λ choice origin before history begins run.
    EachEntry-IsPrefix (IsLegal choice origin) (opening origin) before history begins run
