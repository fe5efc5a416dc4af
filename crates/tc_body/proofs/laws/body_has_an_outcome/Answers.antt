use Rattle.tc_body.proofs.Outcomes.{body_ends}
use Rattle.tc_body.proofs.laws.body_has_an_outcome.Goals as goal

pub returns : goal.returns
returns c = body_ends
