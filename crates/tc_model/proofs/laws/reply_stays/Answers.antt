use Rattle.tc_model.proofs.Histories.{reply_in-IsPrefix}
use Rattle.tc_model.proofs.laws.reply_stays.Goals as goal

pub returns : goal.returns
returns c = reply_in-IsPrefix
