use Rattle.tc_model.proofs.Following.{body-tuples, cascade-tuples}
use Rattle.tc_model.proofs.Runs.{after_history-append}
use Rattle.tc_model.proofs.laws.entries_fix_the_state.Goals as goal

pub returns : goal.returns
returns c = record {
  body = body-tuples;
  cascade = cascade-tuples;
  history = after_history-append;
}
