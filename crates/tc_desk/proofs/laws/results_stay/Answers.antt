use Rattle.tc_desk.proofs.Histories.{IsServedAs-append}
use Rattle.tc_desk.proofs.laws.results_stay.Goals as goal

pub returns : goal.returns
returns c = IsServedAs-append
