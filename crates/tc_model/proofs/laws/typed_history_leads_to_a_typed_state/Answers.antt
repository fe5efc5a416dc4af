use Rattle.tc_model.specs.State.{opening}
use Rattle.tc_model.proofs.TypedStates.{opening-typed, after_history-typed}
use Rattle.tc_model.proofs.laws.typed_history_leads_to_a_typed_state.Goals as goal

pub returns : goal.returns
returns c = λ origin history may all. after_history-typed (opening origin) history (opening-typed origin may) all
